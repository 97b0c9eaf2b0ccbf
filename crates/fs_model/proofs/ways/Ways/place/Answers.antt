use Rattle.std.proofs.Common.{sym, subst}
use Rattle.fs_ident.specs.Maps.{map_of}
use Rattle.fs_model.specs.Ways.{IsGrown, AreSole}
use Rattle.fs_model.proofs.WaysUp.{placed_added, added_at, grown_added, sole}
use Rattle.fs_model.proofs.ways.Ways.place.Goals as goal

pub invariant_of-self : goal.invariant_of-self
invariant_of-self c = placed_added c.add.result (map_of c.self.inside.places) (map_of c.add.new.places) c.self.inside.ways c.add.new.ways c.args.id.now (sym c.in-None.ensures) c.add.ensures.ways c.add.ensures.places c.add.ensures.same_ways c.add.ensures.same_places c.self.invariant

pub returns-in-None-clause-at : goal.returns-in-None-clause-at
returns-in-None-clause-at c = added_at c.add.result c.self.inside.ways c.add.new.ways c.args.id.now c.add.ensures.ways c.add.ensures.at

pub returns-in-None-clause-grown : goal.returns-in-None-clause-grown
returns-in-None-clause-grown c = subst (λ ways. IsGrown ways c.add.new.ways) c.self.view_is (grown_added c.add.result c.self.inside.ways c.add.new.ways c.args.id.now c.add.ensures.ways c.add.ensures.same_ways)

pub returns-in-Some-clause-sole : goal.returns-in-Some-clause-sole
returns-in-Some-clause-sole c = subst AreSole c.self.view_is (sole (map_of c.self.inside.places) c.self.inside.ways c.self.invariant)

pub returns-in-None-clause-sole : goal.returns-in-None-clause-sole
returns-in-None-clause-sole c = sole (map_of c.add.new.places) c.add.new.ways (placed_added c.add.result (map_of c.self.inside.places) (map_of c.add.new.places) c.self.inside.ways c.add.new.ways c.args.id.now (sym c.in-None.ensures) c.add.ensures.ways c.add.ensures.places c.add.ensures.same_ways c.add.ensures.same_places c.self.invariant)
