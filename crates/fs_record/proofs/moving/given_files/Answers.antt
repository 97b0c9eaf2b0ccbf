use Rattle.std.proofs.Common.{◌≡◌, ◌∙◌, ◌++◌, List, ℕ, ap, rules}
use Rattle.std.specs.Map.{keys_of}
use Rattle.fs_ident.specs.Ordered.{Keyed}
use Rattle.fs_record.specs.declared.record.Record.{Record}
use Rattle.fs_record.specs.Walk.{given_from}
use Rattle.fs_record.proofs.Parting.{given_in}
use Rattle.fs_record.proofs.moving.given_files.Goals as goal

pub loop-entry-init : goal.loop-entry-init
loop-entry-init c =
    let piece = c.args.piece.now in
    let all : c.into_iter-entry-iterator.result ≡ c.range-entry-items.result = search rules in
    ap (λ (files : List (List ℕ)). files ++ keys_of (given_from piece.prefix piece.given c.into_iter-entry-iterator.result)) c.new-files.ensures
    ∙ ap (λ (es : Keyed Record). keys_of (given_from piece.prefix piece.given es)) (all ∙ c.range-entry-items.ensures.between tt)
    ∙ ap (λ (es : Keyed Record). keys_of es) (given_in piece.prefix piece.given c.args.records.now c.range-entry-items.ensures.ordered)
