-- Replies.
use Rattle.std.proofs.Common.{ℕ, ◌<◌, ◌≤◌, true, ltb, List, ◌++◌, refl, arith}
use Rattle.std.proofs.lemmas.Bool.{ltb-true, ltb-false, eqb-true}
use Rattle.fs_model.specs.declared.reply.Reply.{Reply}
use Rattle.fs_model.specs.declared.reply.Reply.TheVariants as reply_
use Rattle.fs_wire.specs.Spelling.{reply}
use Rattle.fs_wire.specs.Ranges.{FitsReply}
use Rattle.fs_wire.specs.Tags.{one_tag}
use Rattle.fs_wire.specs.Readers.{either_at, tag_at}
use Rattle.fs_wire.specs.Reading.{gone_to_info_of, exists_to_reaped_of, reply_of, reply_at}
use Rattle.fs_wire.proofs.Readers.{IsOne, IsReader, then-reader, either-reader}
use Rattle.fs_wire.proofs.Says.{Says, says-then, says-map, says-always, says-one}
use Rattle.fs_wire.proofs.Wires.{Spelled, IsWire, tag-reader, arm, lone, above, plain-pair}
use Rattle.fs_wire.proofs.NumberWires.{eight-wire, plain-list}
use Rattle.fs_wire.proofs.NameWires.{identifier-wire, name-wire}

-- the replies behind each span of tags
gone_to_info-reads : (tag : ℕ) (t : List ℕ) → IsOne (λ b. ltb b 26) tag t → tag < 10 → IsReader (gone_to_info_of tag) (λ w u. Spelled FitsReply reply w (t ++ u))
unfolding reply
gone_to_info-reads tag t q lt =
    either-reader _ _ _ _ (λ e. lone reply_.Gone 0 q (eqb-true tag 0 e) tt refl) (λ e0. let a0 = above 0 tag (omega arith) e0 in
    either-reader _ _ _ _ (λ e. lone reply_.NotDir 1 q (eqb-true tag 1 e) tt refl) (λ e1. let a1 = above 1 tag a0 e1 in
    either-reader _ _ _ _ (λ e. lone reply_.GoneTo 2 q (eqb-true tag 2 e) tt refl) (λ e2. let a2 = above 2 tag a1 e2 in
    either-reader _ _ _ _ (λ e. lone reply_.NotDirTo 3 q (eqb-true tag 3 e) tt refl) (λ e3. let a3 = above 3 tag a2 e3 in
    either-reader _ _ _ _ (λ e. lone reply_.NoName 4 q (eqb-true tag 4 e) tt refl) (λ e4. let a4 = above 4 tag a3 e4 in
    either-reader _ _ _ _ (λ e. arm _ 5 q (eqb-true tag 5 e) identifier-wire (λ v f. f) (λ v. refl)) (λ e5. let a5 = above 5 tag a4 e5 in
    either-reader _ _ _ _ (λ e. arm _ 6 q (eqb-true tag 6 e) (plain-list name-wire) (λ v f. f) (λ v. refl)) (λ e6. let a6 = above 6 tag a5 e6 in
    either-reader _ _ _ _ (λ e. lone reply_.IsFile 7 q (eqb-true tag 7 e) tt refl) (λ e7. let a7 = above 7 tag a6 e7 in
    either-reader _ _ _ _ (λ e. lone reply_.IsDir 8 q (eqb-true tag 8 e) tt refl) (λ e8. let a8 = above 8 tag a7 e8 in
    arm _ 9 q (omega (arith, a8, lt)) (plain-pair eight-wire eight-wire) (λ v f. f) (λ v. refl))))))))))

exists_to_reaped-reads : (tag : ℕ) (t : List ℕ) → IsOne (λ b. ltb b 26) tag t → 10 ≤ tag → IsReader (exists_to_reaped_of tag) (λ w u. Spelled FitsReply reply w (t ++ u))
unfolding reply
exists_to_reaped-reads tag t q le =
    either-reader _ _ _ _ (λ e. lone reply_.Exists 10 q (eqb-true tag 10 e) tt refl) (λ e10. let a10 = above 10 tag le e10 in
    either-reader _ _ _ _ (λ e. lone reply_.BadId 11 q (eqb-true tag 11 e) tt refl) (λ e11. let a11 = above 11 tag a10 e11 in
    either-reader _ _ _ _ (λ e. lone reply_.Made 12 q (eqb-true tag 12 e) tt refl) (λ e12. let a12 = above 12 tag a11 e12 in
    either-reader _ _ _ _ (λ e. lone reply_.HandleUsed 13 q (eqb-true tag 13 e) tt refl) (λ e13. let a13 = above 13 tag a12 e13 in
    either-reader _ _ _ _ (λ e. lone reply_.Sharing 14 q (eqb-true tag 14 e) tt refl) (λ e14. let a14 = above 14 tag a13 e14 in
    either-reader _ _ _ _ (λ e. lone reply_.Opened 15 q (eqb-true tag 15 e) tt refl) (λ e15. let a15 = above 15 tag a14 e15 in
    either-reader _ _ _ _ (λ e. lone reply_.NoHandle 16 q (eqb-true tag 16 e) tt refl) (λ e16. let a16 = above 16 tag a15 e16 in
    either-reader _ _ _ _ (λ e. lone reply_.Closed 17 q (eqb-true tag 17 e) tt refl) (λ e17. let a17 = above 17 tag a16 e17 in
    either-reader _ _ _ _ (λ e. lone reply_.NoAccess 18 q (eqb-true tag 18 e) tt refl) (λ e18. let a18 = above 18 tag a17 e18 in
    either-reader _ _ _ _ (λ e. lone reply_.Set 19 q (eqb-true tag 19 e) tt refl) (λ e19. let a19 = above 19 tag a18 e19 in
    either-reader _ _ _ _ (λ e. lone reply_.NotEmpty 20 q (eqb-true tag 20 e) tt refl) (λ e20. let a20 = above 20 tag a19 e20 in
    either-reader _ _ _ _ (λ e. lone reply_.InUse 21 q (eqb-true tag 21 e) tt refl) (λ e21. let a21 = above 21 tag a20 e21 in
    either-reader _ _ _ _ (λ e. lone reply_.Deleted 22 q (eqb-true tag 22 e) tt refl) (λ e22. let a22 = above 22 tag a21 e22 in
    either-reader _ _ _ _ (λ e. lone reply_.Cycle 23 q (eqb-true tag 23 e) tt refl) (λ e23. let a23 = above 23 tag a22 e23 in
    either-reader _ _ _ _ (λ e. lone reply_.Renamed 24 q (eqb-true tag 24 e) tt refl) (λ e24. let a24 = above 24 tag a23 e24 in
    lone reply_.Reaped 25 q (omega (arith, a24, ltb-true tag 26 q.passes)) tt refl)))))))))))))))

reply-reads : IsReader reply_at (Spelled FitsReply reply)
unfolding reply_at
reply-reads = then-reader (tag_at 26) reply_of (IsOne (λ b. ltb b 26)) (Spelled FitsReply reply) (tag-reader 26 (omega arith)) (λ tag t q.
    either-reader _ _ _ _ (λ few. gone_to_info-reads tag t q (ltb-true tag 10 few)) (λ more. exists_to_reaped-reads tag t q (ltb-false tag 10 more)))

reply-says : (v : Reply) → FitsReply v → Says reply_at v (reply v) (one_tag (reply v))
unfolding reply_at reply tag_at either_at
reply-says reply_.Gone fits = says-then reply_of (says-one true (λ b. ltb b 26) 0 refl) (says-always reply_.Gone)
reply-says reply_.NotDir fits = says-then reply_of (says-one true (λ b. ltb b 26) 1 refl) (says-always reply_.NotDir)
reply-says reply_.GoneTo fits = says-then reply_of (says-one true (λ b. ltb b 26) 2 refl) (says-always reply_.GoneTo)
reply-says reply_.NotDirTo fits = says-then reply_of (says-one true (λ b. ltb b 26) 3 refl) (says-always reply_.NotDirTo)
reply-says reply_.NoName fits = says-then reply_of (says-one true (λ b. ltb b 26) 4 refl) (says-always reply_.NoName)
reply-says (reply_.Found x) fits = says-then reply_of (says-one true (λ b. ltb b 26) 5 refl) (says-map (λ x. reply_.Found x) (identifier-wire.says x fits))
reply-says (reply_.Names x) fits = says-then reply_of (says-one true (λ b. ltb b 26) 6 refl) (says-map (λ x. reply_.Names x) ((plain-list name-wire).says x fits))
reply-says reply_.IsFile fits = says-then reply_of (says-one true (λ b. ltb b 26) 7 refl) (says-always reply_.IsFile)
reply-says reply_.IsDir fits = says-then reply_of (says-one true (λ b. ltb b 26) 8 refl) (says-always reply_.IsDir)
reply-says (reply_.Info a b) fits = says-then reply_of (says-one true (λ b. ltb b 26) 9 refl) (says-map (λ p. reply_.Info p.0 p.1) ((plain-pair eight-wire eight-wire).says (a, b) fits))
reply-says reply_.Exists fits = says-then reply_of (says-one true (λ b. ltb b 26) 10 refl) (says-always reply_.Exists)
reply-says reply_.BadId fits = says-then reply_of (says-one true (λ b. ltb b 26) 11 refl) (says-always reply_.BadId)
reply-says reply_.Made fits = says-then reply_of (says-one true (λ b. ltb b 26) 12 refl) (says-always reply_.Made)
reply-says reply_.HandleUsed fits = says-then reply_of (says-one true (λ b. ltb b 26) 13 refl) (says-always reply_.HandleUsed)
reply-says reply_.Sharing fits = says-then reply_of (says-one true (λ b. ltb b 26) 14 refl) (says-always reply_.Sharing)
reply-says reply_.Opened fits = says-then reply_of (says-one true (λ b. ltb b 26) 15 refl) (says-always reply_.Opened)
reply-says reply_.NoHandle fits = says-then reply_of (says-one true (λ b. ltb b 26) 16 refl) (says-always reply_.NoHandle)
reply-says reply_.Closed fits = says-then reply_of (says-one true (λ b. ltb b 26) 17 refl) (says-always reply_.Closed)
reply-says reply_.NoAccess fits = says-then reply_of (says-one true (λ b. ltb b 26) 18 refl) (says-always reply_.NoAccess)
reply-says reply_.Set fits = says-then reply_of (says-one true (λ b. ltb b 26) 19 refl) (says-always reply_.Set)
reply-says reply_.NotEmpty fits = says-then reply_of (says-one true (λ b. ltb b 26) 20 refl) (says-always reply_.NotEmpty)
reply-says reply_.InUse fits = says-then reply_of (says-one true (λ b. ltb b 26) 21 refl) (says-always reply_.InUse)
reply-says reply_.Deleted fits = says-then reply_of (says-one true (λ b. ltb b 26) 22 refl) (says-always reply_.Deleted)
reply-says reply_.Cycle fits = says-then reply_of (says-one true (λ b. ltb b 26) 23 refl) (says-always reply_.Cycle)
reply-says reply_.Renamed fits = says-then reply_of (says-one true (λ b. ltb b 26) 24 refl) (says-always reply_.Renamed)
reply-says reply_.Reaped fits = says-then reply_of (says-one true (λ b. ltb b 26) 25 refl) (says-always reply_.Reaped)

pub reply-wire : IsWire reply_at FitsReply reply (λ v. one_tag (reply v))
reply-wire = record { reads = reply-reads; says = reply-says }
