use Rattle.std.proofs.Common.{ℕ, List, ◌∙◌, ap, subst, sym}
use Rattle.std.specs.Prelude.{slice_range}
use Rattle.fs_map.specs.Map.{IsPiece, gives}
use Rattle.fs_map.specs.Part.{IsPartOf}
use Rattle.fs_map.proofs.Owned.{piece_piece}
use Rattle.fs_map.proofs.Spans.{span_part}
use Rattle.fs_map.proofs.change.piece_of.Goals as goal

pub given_of-requires-clause-part : goal.given_of-requires-clause-part
given_of-requires-clause-part c =
    subst (λ (p : List ℕ). IsPartOf p (slice_range c.args.owners.now c.span-start.result.0 c.span-start.result.1) c.args.owners.now) c.numbers.ensures.same
    (span_part c.args.owners.now c.numbers.result.now c.span-start.result.0 c.span-start.result.1 c.requires.map.ordered c.span-start.ensures)

pub returns-clause-piece : goal.returns-clause-piece
returns-clause-piece c = subst (IsPiece c.args.prefix.now) (sym c.in_ok-given.ensures) (piece_piece c.args.owners.now c.args.me c.args.prefix.now c.requires.mine).0

pub returns-clause-given : goal.returns-clause-given
returns-clause-given c id = ap (λ l. gives c.args.prefix.now l id) c.in_ok-given.ensures ∙ (piece_piece c.args.owners.now c.args.me c.args.prefix.now c.requires.mine).1 id
