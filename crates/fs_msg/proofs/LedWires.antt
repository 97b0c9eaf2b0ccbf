-- How led operations end, and what their messages carry.
use Rattle.std.proofs.Common.{true, ltb, refl, arith}
use Rattle.std.proofs.lemmas.Bool.{ltb-true, eqb-true}
use Rattle.fs_record.specs.declared.led_end.Why.{Why}
use Rattle.fs_record.specs.declared.led_end.Why.TheVariants as why_
use Rattle.fs_record.specs.declared.led_end.LedEnd.{LedEnd}
use Rattle.fs_record.specs.declared.led_end.LedEnd.TheVariants as led_
use Rattle.fs_wire.specs.Tags.{plain, one_tag}
use Rattle.fs_wire.specs.Readers.{either_at, tag_at}
use Rattle.fs_wire.proofs.Readers.{IsOne, IsReader, then-reader, either-reader}
use Rattle.fs_wire.proofs.Says.{Says, says-then, says-map, says-always, says-one}
use Rattle.fs_wire.proofs.Wires.{Spelled, IsWire, tag-reader, arm, lone, above, pair-wire, plain-pair, remade}
use Rattle.fs_wire.proofs.NumberWires.{byte-wire, eight-wire, list-wire}
use Rattle.fs_wire.proofs.SmallWires.{kind-wire, session-wire, lease-wire, transaction-wire, path_lease-wire}
use Rattle.fs_wire.proofs.NameWires.{identifier-wire}
use Rattle.fs_wire.proofs.FieldWires.{lease_use-wire}
use Rattle.fs_wire.proofs.OpWires.{op-wire}
use Rattle.fs_wire.proofs.ReplyWires.{reply-wire}
use Rattle.fs_wire.proofs.EffectWires.{effect-wire}
use Rattle.fs_wire.proofs.PartWires.{part-wire, vote-wire}
use Rattle.fs_msg.specs.Spelling.{why, led_end, lead, prepare, voted, decide, done}
use Rattle.fs_msg.specs.Ranges.{FitsWhy, FitsLedEnd, FitsLead, FitsPrepare, FitsVoted, FitsDecide, FitsDone}
use Rattle.fs_msg.specs.Tags.{led_end_tags, lead_tags, prepare_tags, voted_tags, decide_tags}
use Rattle.fs_msg.specs.Reading.{why_of, why_at, led_end_of, led_end_at, lead_at, prepare_at, voted_at, decide_at, done_at}

-- ---- reasons to ask again

why-reads : IsReader why_at (Spelled FitsWhy why)
unfolding why_at why
why-reads = then-reader (tag_at 6) why_of (IsOne (λ b. ltb b 6)) (Spelled FitsWhy why) (tag-reader 6 (omega arith)) (λ tag t q.
    either-reader _ _ _ _ (λ e. arm _ 0 q (eqb-true tag 0 e) (plain-pair identifier-wire byte-wire) (λ v f. f) (λ v. refl)) (λ e0. let a0 = above 0 tag (omega arith) e0 in
    either-reader _ _ _ _ (λ e. arm _ 1 q (eqb-true tag 1 e) identifier-wire (λ v f. f) (λ v. refl)) (λ e1. let a1 = above 1 tag a0 e1 in
    either-reader _ _ _ _ (λ e. arm _ 2 q (eqb-true tag 2 e) (plain-pair identifier-wire transaction-wire) (λ v f. f) (λ v. refl)) (λ e2. let a2 = above 2 tag a1 e2 in
    either-reader _ _ _ _ (λ e. arm _ 3 q (eqb-true tag 3 e) path_lease-wire (λ v f. f) (λ v. refl)) (λ e3. let a3 = above 3 tag a2 e3 in
    either-reader _ _ _ _ (λ e. lone why_.Changed 4 q (eqb-true tag 4 e) tt refl) (λ e4. let a4 = above 4 tag a3 e4 in
    lone why_.NoChild 5 q (omega (arith, a4, ltb-true tag 6 q.passes)) tt refl))))))

why-says : (v : Why) → FitsWhy v → Says why_at v (why v) (one_tag (why v))
unfolding why_at why tag_at either_at
why-says (why_.Moved x to) fits = says-then why_of (says-one true (λ b. ltb b 6) 0 refl) (says-map (λ p. why_.Moved p.0 p.1) ((plain-pair identifier-wire byte-wire).says (x, to) fits))
why-says (why_.Wanted x) fits = says-then why_of (says-one true (λ b. ltb b 6) 1 refl) (says-map (λ x. why_.Wanted x) (identifier-wire.says x fits))
why-says (why_.Frozen x t) fits = says-then why_of (says-one true (λ b. ltb b 6) 2 refl) (says-map (λ p. why_.Frozen p.0 p.1) ((plain-pair identifier-wire transaction-wire).says (x, t) fits))
why-says (why_.PathsOut x) fits = says-then why_of (says-one true (λ b. ltb b 6) 3 refl) (says-map (λ x. why_.PathsOut x) (path_lease-wire.says x fits))
why-says why_.Changed fits = says-then why_of (says-one true (λ b. ltb b 6) 4 refl) (says-always why_.Changed)
why-says why_.NoChild fits = says-then why_of (says-one true (λ b. ltb b 6) 5 refl) (says-always why_.NoChild)

pub why-wire : IsWire why_at FitsWhy why (λ v. one_tag (why v))
why-wire = record { reads = why-reads; says = why-says }

-- ---- ends

led_end-reads : IsReader led_end_at (Spelled FitsLedEnd led_end)
unfolding led_end_at led_end
led_end-reads = then-reader (tag_at 3) led_end_of (IsOne (λ b. ltb b 3)) (Spelled FitsLedEnd led_end) (tag-reader 3 (omega arith)) (λ tag t q.
    either-reader _ _ _ _ (λ e. arm _ 0 q (eqb-true tag 0 e) reply-wire (λ v f. f) (λ v. refl)) (λ e0. let a0 = above 0 tag (omega arith) e0 in
    either-reader _ _ _ _ (λ e. arm _ 1 q (eqb-true tag 1 e) (plain-pair lease-wire (plain-pair eight-wire eight-wire)) (λ v f. (f.0, f.1.0, f.1.1)) (λ v. refl)) (λ e1. let a1 = above 1 tag a0 e1 in
    arm _ 2 q (omega (arith, a1, ltb-true tag 3 q.passes)) why-wire (λ v f. f) (λ v. refl))))

led_end-says : (v : LedEnd) → FitsLedEnd v → Says led_end_at v (led_end v) (led_end_tags v)
unfolding led_end_at led_end led_end_tags tag_at either_at
led_end-says (led_.Done x) fits = says-then led_end_of (says-one true (λ b. ltb b 3) 0 refl) (says-map (λ x. led_.Done x) (reply-wire.says x fits))
led_end-says (led_.Ended l a b) fits = says-then led_end_of (says-one true (λ b. ltb b 3) 1 refl) (says-map (λ p. led_.Ended p.0 p.1.0 p.1.1) ((plain-pair lease-wire (plain-pair eight-wire eight-wire)).says (l, (a, b)) (fits.0, (fits.1, fits.2))))
led_end-says (led_.Again x) fits = says-then led_end_of (says-one true (λ b. ltb b 3) 2 refl) (says-map (λ x. led_.Again x) (why-wire.says x fits))

pub led_end-wire : IsWire led_end_at FitsLedEnd led_end led_end_tags
led_end-wire = record { reads = led_end-reads; says = led_end-says }

-- ---- what is asked of a leader, and what servers tell each other

pub lead-wire : IsWire lead_at FitsLead lead lead_tags
unfolding lead_at lead lead_tags
lead-wire = remade _ (λ m. (m.n, (m.op, (m.file, (m.kind, m.uses))))) FitsLead lead lead_tags (pair-wire eight-wire (pair-wire op-wire (pair-wire identifier-wire (pair-wire kind-wire (list-wire lease_use-wire)))))
    (λ v f. record { n = f.0; op = f.1.0; file = f.1.1.0; uses = f.1.1.1.1 }) (λ w f. (f.n, (f.op, (f.file, (tt, f.uses))))) (λ v. refl) (λ w s. s)

pub prepare-wire : IsWire prepare_at FitsPrepare prepare prepare_tags
unfolding prepare_at prepare prepare_tags
prepare-wire = remade _ (λ m. (m.txn, (m.number, (m.session, m.part)))) FitsPrepare prepare prepare_tags (pair-wire transaction-wire (pair-wire byte-wire (pair-wire session-wire part-wire)))
    (λ v f. record { txn = f.0; number = f.1.0; session = f.1.1.0; part = f.1.1.1 }) (λ w f. (f.txn, (f.number, (f.session, f.part)))) (λ v. refl) (λ w s. s)

pub voted-wire : IsWire voted_at FitsVoted voted voted_tags
unfolding voted_at voted voted_tags
voted-wire = remade _ (λ m. (m.txn, (m.number, m.vote))) FitsVoted voted voted_tags (pair-wire transaction-wire (pair-wire byte-wire vote-wire))
    (λ v f. record { txn = f.0; number = f.1.0; vote = f.1.1 }) (λ w f. (f.txn, (f.number, f.vote))) (λ v. refl) (λ w s. s)

pub decide-wire : IsWire decide_at FitsDecide decide decide_tags
unfolding decide_at decide decide_tags
decide-wire = remade _ (λ m. (m.txn, (m.number, m.effects))) FitsDecide decide decide_tags (pair-wire transaction-wire (pair-wire byte-wire (list-wire effect-wire)))
    (λ v f. record { txn = f.0; number = f.1.0; effects = f.1.1 }) (λ w f. (f.txn, (f.number, f.effects))) (λ v. refl) (λ w s. s)

pub done-wire : IsWire done_at FitsDone done (λ m. plain (done m))
unfolding done_at done
done-wire = remade _ (λ m. (m.txn, m.number)) FitsDone done (λ m. plain (done m)) (plain-pair transaction-wire byte-wire)
    (λ v f. record { txn = f.0; number = f.1 }) (λ w f. (f.txn, f.number)) (λ v. refl) (λ w s. s)
