use Rattle.std.specs.Prelude.{None}
use Rattle.std.proofs.Common.{sym, subst}
use Rattle.fs_ident.specs.Maps.{map_of}
use Rattle.fs_model.specs.Ways.{StaysTrueBut}
use Rattle.fs_model.proofs.WaysUp.{placed_with_up, file_within, forgotten, unknown}
use Rattle.fs_model.proofs.ways.Ways.forget.Goals as goal

pub set_up-requires : goal.set_up-requires
set_up-requires c = file_within c.self.inside.ways c.in-Some.at c.args.id.now (c.self.invariant.listed c.args.id.now c.in-Some.at (sym c.in-Some.ensures))

pub invariant_of-self : goal.invariant_of-self
invariant_of-self c = placed_with_up (map_of c.self.inside.places) c.self.inside.ways c.set_up.new.ways c.in-Some.at None c.set_up.ensures c.self.invariant

pub returns-in-Some : goal.returns-in-Some
returns-in-Some c = subst (λ ways. StaysTrueBut c.args.id.now ways c.set_up.new.ways) c.self.view_is (forgotten (map_of c.self.inside.places) c.self.inside.ways c.set_up.new.ways c.args.id.now c.in-Some.at c.self.invariant (sym c.in-Some.ensures) c.set_up.ensures)

pub returns-in_default : goal.returns-in_default
returns-in_default c = subst (λ ways. StaysTrueBut c.args.id.now ways ways) c.self.view_is (unknown (map_of c.self.inside.places) c.self.inside.ways c.args.id.now c.self.invariant (sym c.in_default.ensures))
