-- Ends.
use Rattle.std.proofs.Common.{true, ltb, refl, arith}
use Rattle.std.proofs.lemmas.Bool.{ltb-true, eqb-true}
use Rattle.fs_msg.specs.declared.end.End.{End}
use Rattle.fs_msg.specs.declared.end.End.TheVariants as end_
use Rattle.fs_wire.specs.Tags.{one_tag}
use Rattle.fs_wire.specs.Readers.{either_at, tag_at}
use Rattle.fs_wire.proofs.Readers.{IsOne, IsReader, then-reader, either-reader}
use Rattle.fs_wire.proofs.Says.{Says, says-then, says-map, says-always, says-one}
use Rattle.fs_wire.proofs.Wires.{Spelled, IsWire, tag-reader, arm, lone, above, plain-pair}
use Rattle.fs_wire.proofs.NumberWires.{byte-wire, eight-wire}
use Rattle.fs_wire.proofs.SmallWires.{lease-wire, transaction-wire}
use Rattle.fs_wire.proofs.NameWires.{identifier-wire}
use Rattle.fs_msg.specs.Spelling.{end}
use Rattle.fs_msg.specs.Ranges.{FitsEnd}
use Rattle.fs_msg.specs.Reading.{end_of, end_at}

end-reads : IsReader end_at (Spelled FitsEnd end)
unfolding end_at end
end-reads = then-reader (tag_at 6) end_of (IsOne (λ b. ltb b 6)) (Spelled FitsEnd end) (tag-reader 6 (omega arith)) (λ tag t q.
    either-reader _ _ _ _ (λ e. lone end_.All 0 q (eqb-true tag 0 e) tt refl) (λ e0. let a0 = above 0 tag (omega arith) e0 in
    either-reader _ _ _ _ (λ e. arm _ 1 q (eqb-true tag 1 e) lease-wire (λ v f. f) (λ v. refl)) (λ e1. let a1 = above 1 tag a0 e1 in
    either-reader _ _ _ _ (λ e. arm _ 2 q (eqb-true tag 2 e) transaction-wire (λ v f. f) (λ v. refl)) (λ e2. let a2 = above 2 tag a1 e2 in
    either-reader _ _ _ _ (λ e. arm _ 3 q (eqb-true tag 3 e) (plain-pair identifier-wire byte-wire) (λ v f. f) (λ v. refl)) (λ e3. let a3 = above 3 tag a2 e3 in
    either-reader _ _ _ _ (λ e. arm _ 4 q (eqb-true tag 4 e) identifier-wire (λ v f. f) (λ v. refl)) (λ e4. let a4 = above 4 tag a3 e4 in
    arm _ 5 q (omega (arith, a4, ltb-true tag 6 q.passes)) (plain-pair eight-wire (plain-pair lease-wire (plain-pair eight-wire eight-wire))) (λ v f. (f.0, f.1.0, f.1.1.0, f.1.1.1)) (λ v. refl)))))))

end-says : (v : End) → FitsEnd v → Says end_at v (end v) (one_tag (end v))
unfolding end_at end tag_at either_at
end-says end_.All fits = says-then end_of (says-one true (λ b. ltb b 6) 0 refl) (says-always end_.All)
end-says (end_.Wait x) fits = says-then end_of (says-one true (λ b. ltb b 6) 1 refl) (says-map (λ x. end_.Wait x) (lease-wire.says x fits))
end-says (end_.Locked x) fits = says-then end_of (says-one true (λ b. ltb b 6) 2 refl) (says-map (λ x. end_.Locked x) (transaction-wire.says x fits))
end-says (end_.Moved x to) fits = says-then end_of (says-one true (λ b. ltb b 6) 3 refl) (says-map (λ p. end_.Moved p.0 p.1) ((plain-pair identifier-wire byte-wire).says (x, to) fits))
end-says (end_.NoIds x) fits = says-then end_of (says-one true (λ b. ltb b 6) 4 refl) (says-map (λ x. end_.NoIds x) (identifier-wire.says x fits))
end-says (end_.Ended n l a b) fits = says-then end_of (says-one true (λ b. ltb b 6) 5 refl) (says-map (λ p. end_.Ended p.0 p.1.0 p.1.1.0 p.1.1.1) ((plain-pair eight-wire (plain-pair lease-wire (plain-pair eight-wire eight-wire))).says (n, (l, (a, b))) (fits.0, (fits.1, (fits.2, fits.3)))))

pub end-wire : IsWire end_at FitsEnd end (λ v. one_tag (end v))
end-wire = record { reads = end-reads; says = end-says }
