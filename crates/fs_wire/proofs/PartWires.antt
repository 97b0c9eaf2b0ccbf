-- Parts of led operations, and votes on them.
use Rattle.std.proofs.Common.{true, ltb, refl, arith}
use Rattle.std.proofs.lemmas.Bool.{ltb-true, eqb-true}
use Rattle.fs_field.specs.declared.vote.Vote.{Vote}
use Rattle.fs_field.specs.declared.vote.Vote.TheVariants as vote_
use Rattle.fs_wire.specs.Spelling.{part, vote}
use Rattle.fs_wire.specs.Ranges.{FitsPart, FitsVote}
use Rattle.fs_wire.specs.Tags.{one_tag, part_tags}
use Rattle.fs_wire.specs.Readers.{either_at, tag_at}
use Rattle.fs_wire.specs.Reading.{part_at, vote_of, vote_at}
use Rattle.fs_wire.proofs.Readers.{IsOne, IsReader, then-reader, either-reader}
use Rattle.fs_wire.proofs.Says.{Says, says-then, says-map, says-always, says-one}
use Rattle.fs_wire.proofs.Wires.{Spelled, IsWire, tag-reader, arm, lone, above, pair-wire, plain-pair, plain-option, remade}
use Rattle.fs_wire.proofs.NumberWires.{byte-wire, eight-wire, list-wire}
use Rattle.fs_wire.proofs.SmallWires.{lease-wire, path_lease-wire}
use Rattle.fs_wire.proofs.NameWires.{identifier-wire}
use Rattle.fs_wire.proofs.FieldWires.{lease_use-wire}

pub part-wire : IsWire part_at FitsPart part part_tags
unfolding part_at part part_tags
part-wire = remade _ (λ p. (p.file, (p.uses, p.freeze))) FitsPart part part_tags (pair-wire identifier-wire (pair-wire (list-wire lease_use-wire) (plain-option identifier-wire)))
    (λ v f. record { file = f.0; uses = f.1.0; freeze = f.1.1 }) (λ w f. (f.file, (f.uses, f.freeze))) (λ v. refl) (λ w s. s)

vote-reads : IsReader vote_at (Spelled FitsVote vote)
unfolding vote_at vote
vote-reads = then-reader (tag_at 4) vote_of (IsOne (λ b. ltb b 4)) (Spelled FitsVote vote) (tag-reader 4 (omega arith)) (λ tag t q.
    either-reader _ _ _ _ (λ e. lone vote_.Yes 0 q (eqb-true tag 0 e) tt refl) (λ e0. let a0 = above 0 tag (omega arith) e0 in
    either-reader _ _ _ _ (λ e. arm _ 1 q (eqb-true tag 1 e) (plain-pair lease-wire (plain-pair eight-wire eight-wire)) (λ v f. (f.0, f.1.0, f.1.1)) (λ v. refl)) (λ e1. let a1 = above 1 tag a0 e1 in
    either-reader _ _ _ _ (λ e. arm _ 2 q (eqb-true tag 2 e) (plain-pair identifier-wire byte-wire) (λ v f. f) (λ v. refl)) (λ e2. let a2 = above 2 tag a1 e2 in
    arm _ 3 q (omega (arith, a2, ltb-true tag 4 q.passes)) path_lease-wire (λ v f. f) (λ v. refl)))))

vote-says : (v : Vote) → FitsVote v → Says vote_at v (vote v) (one_tag (vote v))
unfolding vote_at vote tag_at either_at
vote-says vote_.Yes fits = says-then vote_of (says-one true (λ b. ltb b 4) 0 refl) (says-always vote_.Yes)
vote-says (vote_.Ended l a b) fits = says-then vote_of (says-one true (λ b. ltb b 4) 1 refl) (says-map (λ p. vote_.Ended p.0 p.1.0 p.1.1) ((plain-pair lease-wire (plain-pair eight-wire eight-wire)).says (l, (a, b)) (fits.0, (fits.1, fits.2))))
vote-says (vote_.Moved x to) fits = says-then vote_of (says-one true (λ b. ltb b 4) 2 refl) (says-map (λ p. vote_.Moved p.0 p.1) ((plain-pair identifier-wire byte-wire).says (x, to) fits))
vote-says (vote_.PathsOut x) fits = says-then vote_of (says-one true (λ b. ltb b 4) 3 refl) (says-map (λ x. vote_.PathsOut x) (path_lease-wire.says x fits))

pub vote-wire : IsWire vote_at FitsVote vote (λ v. one_tag (vote v))
vote-wire = record { reads = vote-reads; says = vote-says }
