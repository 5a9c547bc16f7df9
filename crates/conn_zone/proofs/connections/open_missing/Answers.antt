use Rattle.std.proofs.Common.{◌+◌, subst, ◌∙◌, arith}
use Rattle.conn_zone.specs.declared.state.ConnState.{ConnState}
use Rattle.conn_zone.specs.Layout.{LaysCounted}
use Rattle.conn_zone.proofs.Answering.{missing_answer, missing_length, refused_length}
use Rattle.conn_zone.proofs.Stepping.{few_entries}
use Rattle.conn_zone.proofs.connections.open_missing.Goals as goal

pub overflow_add-entries : goal.overflow_add-entries
overflow_add-entries g c = let h = c.requires.there in omega (arith, few_entries c.args.pool.now c.args.context.at h.0 h.1.words, h.1.counted)

pub returns-in-Some-clause-reply : goal.returns-in-Some-clause-reply
returns-in-Some-clause-reply g c s limit l none = (missing_answer s c.args.key.now limit _ none (c.in-Some.ensures.block s l.words none)).reply_is

pub returns-in-Some-clause-laid : goal.returns-in-Some-clause-laid
returns-in-Some-clause-laid g c s limit l none =
    let given = c.in-Some.ensures.block s l.words none in
    subst (λ (t : ConnState). LaysCounted c.add_node.new.pool c.args.context.at (c.args.entries.now + 1) t) (missing_answer s c.args.key.now limit _ none given).after_is
    (record { words = c.in-Some.ensures.laid s l.words none; counted = omega (arith, missing_length s c.args.key.now _ given, l.counted) })

pub returns-in-None-clause-reply : goal.returns-in-None-clause-reply
returns-in-None-clause-reply g c s limit l none = (missing_answer s c.args.key.now limit _ none (c.in-None.ensures.block s l.words none)).reply_is

pub returns-in-None-clause-laid : goal.returns-in-None-clause-laid
returns-in-None-clause-laid g c s limit l none =
    let given = c.in-None.ensures.block s l.words none in
    subst (λ (t : ConnState). LaysCounted c.add_node.new.pool c.args.context.at c.args.entries.now t) (missing_answer s c.args.key.now limit _ none given).after_is
    (record { words = c.in-None.ensures.laid s l.words none; counted = refused_length s c.args.key.now given ∙ l.counted })
