use Rattle.std.proofs.Common.{◌≡◌, ◌∙◌, ap, rules}
use Rattle.fs_ident.specs.Ordered.{Keyed}
use Rattle.fs_model.specs.Step.{is_empty}
use Rattle.fs_record.specs.declared.record.Record.{Record}
use Rattle.fs_record.specs.Walk.{given_from}
use Rattle.fs_record.proofs.Parting.{given_in}
use Rattle.fs_record.proofs.moving.has_given.Goals as goal

pub loop-entry-init : goal.loop-entry-init
loop-entry-init c =
    let piece = c.args.piece.now in
    let all : c.into_iter-entry-iterator.result ≡ c.range-entry-items.result = search rules in
    ap (λ (rest : Keyed Record). is_empty (given_from piece.prefix piece.given rest)) (all ∙ c.range-entry-items.ensures.between tt)
    ∙ ap (λ (es : Keyed Record). is_empty es) (given_in piece.prefix piece.given c.args.records.now c.range-entry-items.ensures.ordered)
