use Rattle.std.proofs.Common.{ℕ, ◌≡◌, ◌<◌, ◌∙◌, sym, subst, List, [], ◌∷◌, ◌++◌, length, Some, rules}
use Rattle.slab_model.specs.Grant.{grant}
use Rattle.peer_zone.specs.declared.calls.Server.{Server}
use Rattle.peer_zone.specs.Opening.{besides, context_size, name_size, list_size, record_requests, backup_requests, grant_all, grants_of, pool_of}
use Rattle.peer_zone.specs.Placing.{GrantsBlock, IsRefused, PlacesRecords, PlacesBackup}
use Rattle.peer_zone.proofs.GrantLemmas.{goes_on, goes_on-fits, goes_on-refused, goes_on-last, backup-fits}
use Rattle.peer_zone.proofs.RootLemmas.{text_size, one_of, two_of, three_of, primary_requests, later_requests, on-one, on-two, on-three, on-records, placed}
use Rattle.peer_zone.proofs.opening.place.Goals as goal

pub take_block-context-requires-clause-fits : goal.take_block-context-requires-clause-fits
take_block-context-requires-clause-fits c =
    let spec = c.args.spec.now in
    let fits = goes_on-fits spec [] (pool_of spec) context_size (besides (name_size spec.name) ∷ besides list_size ∷ primary_requests spec ++ later_requests spec) c.requires.spec (goes_on spec) in
    (pool_of spec, fits.0, c.requires.fresh, fits.1)

pub take_block-name-requires-clause-fits : goal.take_block-name-requires-clause-fits
take_block-name-requires-clause-fits c =
    let spec = c.args.spec.now in
    let size : c.args.name_size ≡ name_size spec.name = c.requires.size ∙ text_size spec.name in
    let context = c.take_block-context.ensures (pool_of spec) c.requires.fresh in
    let fits = goes_on-fits spec (c.take_block-context.result.at ∷ []) (one_of spec) (name_size spec.name) (besides list_size ∷ primary_requests spec ++ later_requests spec) c.requires.spec (on-one spec c.take_block-context.result.at context.block) in
    (one_of spec, fits.0, context.laid, subst (λ (n : ℕ). (grant (one_of spec) n).0 ≡ Some fits.0) (sym size) fits.1)

pub take_block-list-requires-clause-fits : goal.take_block-list-requires-clause-fits
take_block-list-requires-clause-fits c =
    let spec = c.args.spec.now in
    let size : c.args.name_size ≡ name_size spec.name = c.requires.size ∙ text_size spec.name in
    let context = c.take_block-context.ensures (pool_of spec) c.requires.fresh in
    let name : GrantsBlock c.take_block-context.new.pool c.take_block-name.new.pool (one_of spec) (name_size spec.name) c.take_block-name.result.at = subst (λ (n : ℕ). GrantsBlock c.take_block-context.new.pool c.take_block-name.new.pool (one_of spec) n c.take_block-name.result.at) size (c.take_block-name.ensures (one_of spec) context.laid) in
    let fits = goes_on-fits spec (c.take_block-context.result.at ∷ c.take_block-name.result.at ∷ []) (two_of spec) list_size (primary_requests spec ++ later_requests spec) c.requires.spec (on-two spec c.take_block-context.result.at c.take_block-name.result.at context.block name.block) in
    (two_of spec, fits.0, name.laid, fits.1)

pub returns-in_err-first : goal.returns-in_err-first
returns-in_err-first c =
    let spec = c.args.spec.now in
    let size : c.args.name_size ≡ name_size spec.name = c.requires.size ∙ text_size spec.name in
    let context = c.take_block-context.ensures (pool_of spec) c.requires.fresh in
    let name : GrantsBlock c.take_block-context.new.pool c.take_block-name.new.pool (one_of spec) (name_size spec.name) c.take_block-name.result.at = subst (λ (n : ℕ). GrantsBlock c.take_block-context.new.pool c.take_block-name.new.pool (one_of spec) n c.take_block-name.result.at) size (c.take_block-name.ensures (one_of spec) context.laid) in
    let list = c.take_block-list.ensures (two_of spec) name.laid in
    let on = on-three spec c.take_block-context.result.at c.take_block-name.result.at c.take_block-list.result.at context.block name.block list.block in
    let here = subst (λ (ss : List Server). IsRefused (grant_all (three_of spec) (record_requests 0 ss)) c.in_err-first.field-0.0) c.as_slice.ensures (c.in_err-first.ensures (three_of spec) list.laid) in
    let refused : IsRefused (grants_of spec) c.in_err-first.field-0.0 = goes_on-refused spec (c.take_block-context.result.at ∷ c.take_block-name.result.at ∷ c.take_block-list.result.at ∷ []) (three_of spec) (primary_requests spec) (later_requests spec) c.in_err-first.field-0.0 on here in
    search rules

pub place_backup-requires-clause-fits : goal.place_backup-requires-clause-fits
place_backup-requires-clause-fits c some =
    let spec = c.args.spec.now in
    let size : c.args.name_size ≡ name_size spec.name = c.requires.size ∙ text_size spec.name in
    let context = c.take_block-context.ensures (pool_of spec) c.requires.fresh in
    let name : GrantsBlock c.take_block-context.new.pool c.take_block-name.new.pool (one_of spec) (name_size spec.name) c.take_block-name.result.at = subst (λ (n : ℕ). GrantsBlock c.take_block-context.new.pool c.take_block-name.new.pool (one_of spec) n c.take_block-name.result.at) size (c.take_block-name.ensures (one_of spec) context.laid) in
    let list = c.take_block-list.ensures (two_of spec) name.laid in
    let on = on-three spec c.take_block-context.result.at c.take_block-name.result.at c.take_block-list.result.at context.block name.block list.block in
    let records = subst (λ (ss : List Server). PlacesRecords c.take_block-list.new.pool c.place_records.new.pool (grant_all (three_of spec) (record_requests 0 ss)) ss c.in_ok-first.first) c.as_slice.ensures (c.in_ok-first.ensures (three_of spec) list.laid) in
    let first = grant_all (three_of spec) (primary_requests spec) in
    let more = on-records spec c.take_block-context.result.at c.take_block-name.result.at c.take_block-list.result.at on records.grants.all in
    let there : 0 < length spec.backup = subst (λ (ss : List Server). 0 < length ss) c.as_slice-2.ensures some in
    let fits = backup-fits spec (c.take_block-context.result.at ∷ c.take_block-name.result.at ∷ c.take_block-list.result.at ∷ first.blocks) first.slab (length spec.primary) spec.backup c.requires.spec more there in
    (first.slab, fits.0, records.grants.laid, fits.1)

pub returns-in_err-backup : goal.returns-in_err-backup
returns-in_err-backup c =
    let spec = c.args.spec.now in
    let size : c.args.name_size ≡ name_size spec.name = c.requires.size ∙ text_size spec.name in
    let context = c.take_block-context.ensures (pool_of spec) c.requires.fresh in
    let name : GrantsBlock c.take_block-context.new.pool c.take_block-name.new.pool (one_of spec) (name_size spec.name) c.take_block-name.result.at = subst (λ (n : ℕ). GrantsBlock c.take_block-context.new.pool c.take_block-name.new.pool (one_of spec) n c.take_block-name.result.at) size (c.take_block-name.ensures (one_of spec) context.laid) in
    let list = c.take_block-list.ensures (two_of spec) name.laid in
    let on = on-three spec c.take_block-context.result.at c.take_block-name.result.at c.take_block-list.result.at context.block name.block list.block in
    let records = subst (λ (ss : List Server). PlacesRecords c.take_block-list.new.pool c.place_records.new.pool (grant_all (three_of spec) (record_requests 0 ss)) ss c.in_ok-first.first) c.as_slice.ensures (c.in_ok-first.ensures (three_of spec) list.laid) in
    let first = grant_all (three_of spec) (primary_requests spec) in
    let more = on-records spec c.take_block-context.result.at c.take_block-name.result.at c.take_block-list.result.at on records.grants.all in
    let number : c.len.result ≡ length spec.primary = c.len.ensures in
    let here = subst (λ (ss : List Server). IsRefused (grant_all first.slab (backup_requests (length spec.primary) ss)) c.in_err-backup.field-0.0) c.as_slice-2.ensures (subst (λ (n : ℕ). IsRefused (grant_all first.slab (backup_requests n c.as_slice-2.result.now)) c.in_err-backup.field-0.0) number (c.in_err-backup.ensures first.slab records.grants.laid)) in
    let refused : IsRefused (grants_of spec) c.in_err-backup.field-0.0 = goes_on-last spec (c.take_block-context.result.at ∷ c.take_block-name.result.at ∷ c.take_block-list.result.at ∷ first.blocks) first.slab (later_requests spec) c.in_err-backup.field-0.0 more here in
    search rules

pub returns : goal.returns
returns c =
    let spec = c.args.spec.now in
    let size : c.args.name_size ≡ name_size spec.name = c.requires.size ∙ text_size spec.name in
    let context = c.take_block-context.ensures (pool_of spec) c.requires.fresh in
    let name : GrantsBlock c.take_block-context.new.pool c.take_block-name.new.pool (one_of spec) (name_size spec.name) c.take_block-name.result.at = subst (λ (n : ℕ). GrantsBlock c.take_block-context.new.pool c.take_block-name.new.pool (one_of spec) n c.take_block-name.result.at) size (c.take_block-name.ensures (one_of spec) context.laid) in
    let list = c.take_block-list.ensures (two_of spec) name.laid in
    let records = subst (λ (ss : List Server). PlacesRecords c.take_block-list.new.pool c.place_records.new.pool (grant_all (three_of spec) (record_requests 0 ss)) ss c.in_ok-first.first) c.as_slice.ensures (c.in_ok-first.ensures (three_of spec) list.laid) in
    let first = grant_all (three_of spec) (primary_requests spec) in
    let number : c.len.result ≡ length spec.primary = c.len.ensures in
    let behind = subst (λ (ss : List Server). PlacesBackup c.place_records.new.pool c.place_backup.new.pool (grant_all first.slab (backup_requests (length spec.primary) ss)) ss c.in_ok-backup.backup) c.as_slice-2.ensures (subst (λ (n : ℕ). PlacesBackup c.place_records.new.pool c.place_backup.new.pool (grant_all first.slab (backup_requests n c.as_slice-2.result.now)) c.as_slice-2.result.now c.in_ok-backup.backup) number (c.in_ok-backup.ensures first.slab records.grants.laid)) in
    placed c.args.pool.now c.take_block-context.new.pool c.take_block-name.new.pool c.take_block-list.new.pool c.place_records.new.pool c.place_backup.new.pool spec _ context name list records behind
