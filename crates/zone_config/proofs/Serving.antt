-- The servers of an upstream whose block keeps the rules.
use Rattle.std.proofs.Common.{◌≡◌, ℕ, ◌<◌, ◌≤◌, Bool, true, false, cond, List, [], ◌∷◌, ◌++◌, Some, codes, length, map, refl, sym, ◌∙◌, ap, subst, arith}
use Rattle.std.specs.Prelude.{◌&&◌, ◌||◌, not, count_by}
use Rattle.std.specs.List.{All, filter, list_any}
use Rattle.std.proofs.lemmas.Bool.{and_parts, leb-false, not-true}
use Rattle.std.proofs.lemmas.List.Elements.{All-map, filter_agree}
use Rattle.std.proofs.lemmas.List.Sums.{length-filter}
use Rattle.directive_text.specs.declared.tree.Directive.{Directive}
use Rattle.config_rules.specs.declared.kind.Context.TheVariants.{Upstream}
use Rattle.config_rules.specs.declared.kind.Kind.TheVariants.{Peer}
use Rattle.config_rules.specs.declared.argument.Argument.TheVariants.{Number}
use Rattle.config_rules.specs.declared.earlier.ZoneNames.{ZoneNames}
use Rattle.config_rules.specs.Words.{arguments_of, first_of, has_block, is_called, value_of}
use Rattle.config_rules.specs.Arguments.{later_argument, meanings}
use Rattle.config_rules.specs.InOrder.{Place, Scope, kind_at}
use Rattle.config_rules.specs.Rules.{is_backup, is_formed, is_in_list_of, is_name, is_out_of_range, is_primary}
use Rattle.config_rules.proofs.Around.{Whole}
use Rattle.config_rules.proofs.Fits.{or_false}
use Rattle.zone_config.specs.Configuration.{is_backup_server, server_of}
use Rattle.zone_config.specs.Conditions.{IsServer, IsWithin}
use Rattle.zone_config.proofs.Declaring.{name_within, valued_front}
use Rattle.zone_config.proofs.Keeps.{Keeps, seen_as}
use Rattle.zone_config.proofs.Valued.{number_or_within, time_within}
use Rattle.zone_config.proofs.Sound.{Serves, Sound, is_peer, kept_as}
use Rattle.zone_config.proofs.Chosen.{OneMore, chosen}

-- what the parameters of a server mean
weight_means : (w v : List ℕ) → value_of (codes "weight=") w ≡ Some v → later_argument Peer w ≡ Number v 1 65535
weight_means w v is = rw (valued_front (codes "weight=") w v is) refl

conns_is : (v : List ℕ) → later_argument Peer (codes "max_conns=" ++ v) ≡ Number v 0 1000000000
conns_is v = refl

conns_means : (w v : List ℕ) → value_of (codes "max_conns=") w ≡ Some v → later_argument Peer w ≡ Number v 0 1000000000
conns_means w v is = ap (later_argument Peer) (valued_front (codes "max_conns=") w v is) ∙ conns_is v

fails_is : (v : List ℕ) → later_argument Peer (codes "max_fails=" ++ v) ≡ Number v 0 1000000000
fails_is v = refl

fails_means : (w v : List ℕ) → value_of (codes "max_fails=") w ≡ Some v → later_argument Peer w ≡ Number v 0 1000000000
fails_means w v is = ap (later_argument Peer) (valued_front (codes "max_fails=") w v is) ∙ fails_is v

-- a server whose words are in their ranges
server_within : (words : List (List ℕ)) (b : Bool) (d : Directive) → arguments_of d ≡ words → not (is_formed Peer (length words) b) ≡ false →
    list_any is_out_of_range (meanings Peer words) ≡ false → IsServer (server_of d)
server_within [] b d is formed ranged = absurd (cc)
server_within (a ∷ ws) b d is formed ranged =
    let both = or_false (not (is_name a)) (list_any is_out_of_range (map (later_argument Peer) ws)) ranged in
    let weight = number_or_within (codes "weight=") 1 65535 1 (later_argument Peer) weight_means ws both.1 (omega arith) (omega arith, omega arith) in
    let conns = number_or_within (codes "max_conns=") 0 1000000000 0 (later_argument Peer) conns_means ws both.1 (omega arith) (omega arith, omega arith) in
    let fails = number_or_within (codes "max_fails=") 0 1000000000 1 (later_argument Peer) fails_means ws both.1 (omega arith) (omega arith, omega arith) in
    record {
      address = subst (λ xs. IsWithin 1 255 (length (first_of xs))) (sym is) (name_within a both.0);
      weight = rw is weight;
      max_conns = rw is conns.1;
      max_fails = rw is fails.1;
      fail_timeout = rw is (time_within (codes "fail_timeout=") 10 ws (omega arith));
    }

-- no two servers need to differ
abbrev pub Free : Directive → Directive → Type 0
Free a b = Unit {0}

-- what a server of a list keeps
server_kept : (text : ZoneNames) (places : List Place) (p : Place) → Sound text places p → kind_at p ≡ Peer → IsServer (server_of p.directive) × (count_by (is_in_list_of (is_backup p.directive)) p.before < 64)
server_kept text places p s here =
    let k : Keeps (seen_as text s.earlier p Peer) = kept_as text places p Peer s here in
    (server_within (arguments_of p.directive) (has_block p.directive) p.directive refl k.formed k.ranged, leb-false 64 (count_by (is_in_list_of (is_backup p.directive)) p.before) k.few)

-- the servers of one list
listed_with : (c b : Bool) → (c && cond b false true) ≡ (c && not b)
listed_with c true = refl
listed_with c false = refl

primary_list : (d : Directive) → is_in_list_of false d ≡ is_primary d
primary_list d = listed_with (is_called (codes "server") d) (is_backup d)

backed_with : (c b : Bool) → (c && cond b true false) ≡ (c && b)
backed_with c true = refl
backed_with c false = refl

backup_list : (d : Directive) → is_in_list_of true d ≡ is_backup_server d
backup_list d = backed_with (is_called (codes "server") d) (is_backup d)

listed_count : (p q : Directive → Bool) → ((d : Directive) → p d ≡ q d) → (ds : List Directive) → length (filter q ds) ≡ count_by p ds
listed_count p q same ds = ap length (sym (filter_agree p q same ds)) ∙ length-filter p ds

primary_more : (text : ZoneNames) (places : List Place) (scope : Scope) → scope.context ≡ Upstream → (before : List Directive) (d : Directive) →
    Sound text places (record { scope = scope; before = before; directive = d }) → is_primary d ≡ true → OneMore (λ x. IsServer (server_of x)) Free 64 (filter is_primary before) d
primary_more text places scope upstream before d s e =
    let parts = and_parts (is_called (codes "server") d) (not (is_backup d)) e in
    let p : Place = record { scope = scope; before = before; directive = d } in
    let kept = server_kept text places p s (is_peer p upstream parts.0) in
    let few : count_by (is_in_list_of false) before < 64 = subst (λ b. count_by (is_in_list_of b) before < 64) (not-true (is_backup d) parts.1) kept.1 in
    record {
      itself = kept.0;
      apart = λ k x below. tt;
      room = subst (λ n. n < 64) (sym (listed_count (is_in_list_of false) is_primary primary_list before)) few;
    }

backup_more : (text : ZoneNames) (places : List Place) (scope : Scope) → scope.context ≡ Upstream → (before : List Directive) (d : Directive) →
    Sound text places (record { scope = scope; before = before; directive = d }) → is_backup_server d ≡ true → OneMore (λ x. IsServer (server_of x)) Free 64 (filter is_backup_server before) d
backup_more text places scope upstream before d s e =
    let parts = and_parts (is_called (codes "server") d) (is_backup d) e in
    let p : Place = record { scope = scope; before = before; directive = d } in
    let kept = server_kept text places p s (is_peer p upstream parts.0) in
    let few : count_by (is_in_list_of true) before < 64 = subst (λ b. count_by (is_in_list_of b) before < 64) parts.1 kept.1 in
    record {
      itself = kept.0;
      apart = λ k x below. tt;
      room = subst (λ n. n < 64) (sym (listed_count (is_in_list_of true) is_backup_server backup_list before)) few;
    }

-- what passes a test is at least one
one_passes_at : (test : Directive → Bool) (d : Directive) (ds : List Directive) (b : Bool) → test d ≡ b → (test d || list_any test ds) ≡ true → (list_any test ds ≡ true → 1 ≤ length (filter test ds)) →
    1 ≤ length (filter test (d ∷ ds))
one_passes_at test d ds true is e later = rw is (omega arith)
one_passes_at test d ds false is e later = rw is (later (rw is at e))

one_passes : (test : Directive → Bool) (ds : List Directive) → list_any test ds ≡ true → 1 ≤ length (filter test ds)
one_passes test [] e = absurd (cc)
one_passes test (d ∷ ds) e = one_passes_at test d ds (test d) refl e (one_passes test ds)

-- the servers of an upstream's block
pub record Servers (block : List Directive) : Type 0 where
  pub primary : All IsServer (map server_of (filter is_primary block))
  pub backup : All IsServer (map server_of (filter is_backup_server block))
  pub some : 1 ≤ length (filter is_primary block)
  pub few : length (filter is_primary block) ≤ 64
  pub spare : length (filter is_backup_server block) ≤ 64

pub servers : (text : ZoneNames) (places : List Place) (scope : Scope) → Whole (Sound text places) Serves scope → scope.context ≡ Upstream → Servers scope.block
servers text places scope whole upstream =
    let primary = chosen (Sound text places) (λ x. IsServer (server_of x)) Free 64 is_primary scope
    (λ before d s e _. primary_more text places scope upstream before d s e) scope.block whole.each in
    let backup = chosen (Sound text places) (λ x. IsServer (server_of x)) Free 64 is_backup_server scope
    (λ before d s e _. backup_more text places scope upstream before d s e) scope.block whole.each in
    record {
      primary = All-map IsServer server_of (filter is_primary scope.block) primary.each;
      backup = All-map IsServer server_of (filter is_backup_server scope.block) backup.each;
      some = one_passes is_primary scope.block (whole.own upstream);
      few = primary.count;
      spare = backup.count;
    }
