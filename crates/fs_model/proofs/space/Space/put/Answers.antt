use Rattle.std.proofs.Common.{sym, subst}
use Rattle.std.specs.FinMap.{insert}
use Rattle.fs_ident.specs.Maps.{map_of}
use Rattle.fs_model.specs.Ways.{StaysTrueBut}
use Rattle.fs_model.proofs.Spaces.{IsSpace-insert}
use Rattle.fs_model.proofs.Keeping.{either_kept}
use Rattle.fs_model.proofs.WaysKept.{put_true}
use Rattle.fs_model.proofs.space.Space.put.Goals as goal

pub invariant_of-self : goal.invariant_of-self
invariant_of-self c =
    let old = map_of c.self.inside.nodes in
    let new = map_of c.add-done.new.nodes in
    let key = c.in_ok-key.key in (
      either_kept c.add-done.result old new (insert old key c.args.node) c.add-done.ensures.ok c.add-done.ensures.err c.self.invariant.0 (IsSpace-insert old key c.args.node c.self.invariant.0 c.requires),
      put_true c.add-done.result old new key c.args.node c.self.inside.ways c.forget.new.self c.add-done.ensures.ok c.add-done.ensures.err (subst (λ k. StaysTrueBut k c.self.inside.ways c.forget.new.self) (sym c.in_ok-key.ensures) c.forget.ensures) c.self.invariant.1,
    )
