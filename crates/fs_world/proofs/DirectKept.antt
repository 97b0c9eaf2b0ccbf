-- What every event of the direct form keeps.
use Rattle.std.proofs.Common.{◌≡◌, ℕ, ◌+◌, true, List, [], ◌∷◌, ◌++◌, refl, ap, sym, ◌∙◌, subst}
use Rattle.std.specs.Prelude.{Option, Some, None, unwrap_or}
use Rattle.std.specs.FinMap.{get, get-empty}
use Rattle.std.specs.Ordering.{nat_cmp}
use Rattle.fs_ident.specs.declared.actor.Session.{Session}
use Rattle.fs_ident.specs.declared.actor.Peer.{Peer}
use Rattle.fs_ident.specs.declared.actor.Peer.TheVariants.{Server, Client}
use Rattle.fs_ident.specs.In.{In}
use Rattle.fs_model.specs.declared.op.Op.{Op}
use Rattle.fs_model.specs.Asking.{may_ask}
use Rattle.fs_model.specs.Namespace.{first_space}
use Rattle.fs_msg.specs.declared.item.Item.{Item}
use Rattle.fs_msg.specs.Journal.{IsSerialRun}
use Rattle.fs_schedule.specs.declared.event.Head.TheVariants as head
use Rattle.fs_schedule.specs.declared.event.What.{What}
use Rattle.fs_schedule.specs.declared.event.What.TheVariants.{Join, Do, Tell, Turn, Recall, Move}
use Rattle.fs_world.specs.declared.direct.world.Direct.{Direct}
use Rattle.fs_world.specs.Direct.{Answer, Stepped, answer, answer_step, do_at, first_direct, item_of, join_at, join_step, step_of}
use Rattle.fs_world.specs.World.{may_happen}
use Rattle.fs_world.specs.Order.{Tale, ReplyGiven, after, AllAdmitted, HasNumberOf, Agrees, AreNumberedFrom, items_of}
use Rattle.fs_world.proofs.Serial.{serial_push, IsStep, answer_steps, AllAsk, asks_push}
use Rattle.fs_world.proofs.Numbered.{IsCounted, counted_joined, counted_answered, none_served, one_item}
use Rattle.fs_world.proofs.Replies.{admitted_push, admitted_still}

-- what holds of a world in which this was told
pub record Holds (told : List ReplyGiven) (w : Direct) : Type 0 where
  pub serial : IsSerialRun first_space w.journal w.space
  pub counted : (s : Session) → IsCounted w.journal w.asked s
  pub unserved : (k : ℕ) → items_of (Server k) w.journal ≡ []
  pub admitted : AllAdmitted w.journal told
  pub asking : AllAsk w.journal

-- ## One event, by what it comes to

holds_nothing : (told : List ReplyGiven) (w : Direct) → Holds told w → Holds (told ++ []) w
holds_nothing told w h = record {
  serial = h.serial;
  counted = h.counted;
  unserved = h.unserved;
  admitted =
      admitted_still w.journal told h.admitted;
  asking = h.asking;
}

holds_begun : (told : List ReplyGiven) (w : Direct) (s : Session) → get w.asked s.0 ≡ None → Holds told w
    → Holds (told ++ []) (join_step w s).world
holds_begun told w s none h = record {
  serial = h.serial;
  counted = λ c. counted_joined w.journal w.asked s c none (h.counted c);
  unserved = h.unserved;
  admitted = admitted_still w.journal told h.admitted;
  asking = h.asking;
}

holds_answered : (told : List ReplyGiven) (w : Direct) (s : Session) (o : Op) (n : ℕ) (a : Answer) → get w.asked s.0 ≡ Some n
    → IsStep w.space s o a → Holds told w
    → Holds (told ++ record { session = s; n = n + 1; asked = o; reply = a.reply } ∷ []) (answer_step w s (n + 1) a).world
holds_answered told w s o n a some steps h = record {
  serial = subst (IsSerialRun first_space (w.journal ++ item_of s (n + 1) a ∷ [])) steps.space
      (serial_push first_space w.journal w.space (item_of s (n + 1) a) h.serial steps.plain steps.reply);
  counted = λ c. counted_answered w.journal w.asked s c n (item_of s (n + 1) a) some refl refl (h.counted c);
  unserved = λ k. none_served k w.journal s (item_of s (n + 1) a) refl (h.unserved k);
  admitted = admitted_push w.journal told (item_of s (n + 1) a) (record {
    session = s;
    n = n + 1;
    asked = o;
    reply =
        a.reply;
  }) (record { by = refl; n = refl }) (record { op = steps.same; reply = refl }) h.admitted;
  asking = asks_push w.journal (item_of s (n + 1) a) h.asking steps.asks;
}

-- what the step told is told, and the step's world is left
abbrev StepHolds : Tale → What → Stepped → Type 0
StepHolds tale what s = Holds (after what s.outcome tale).told s.world

join_holds : (tale : Tale) (w : Direct) (s : Session) (c : Option ℕ) → get w.asked s.0 ≡ c → Holds tale.told w
    → StepHolds tale (Join s) (join_at c w s)
join_holds tale w s None at h = holds_begun tale.told w s at h
join_holds tale w s (Some n) at h = holds_nothing tale.told w h

do_holds : (tale : Tale) (w : Direct) (s : Session) (o : Op) (c : Option ℕ) → get w.asked s.0 ≡ c → may_ask o ≡ true → Holds tale.told w
    → StepHolds tale (Do s o) (do_at c w s o)
do_holds tale w s o None at f h = holds_nothing tale.told w h
do_holds tale w s o (Some n) at f h = holds_answered tale.told w s o n (answer w.space w.next s o) at (answer_steps w.space w.next s o f) h

pub step_holds : (tale : Tale) (w : Direct) (what : What) → may_happen head.Direct what ≡ true → Holds tale.told w
    → StepHolds tale what (step_of w what)
step_holds tale w (Join s) f h = join_holds tale w s (get w.asked s.0) refl h
step_holds tale w (Do s o) f h = do_holds tale w s o (get w.asked s.0) refl f h
step_holds tale w (Tell number) f h = holds_nothing tale.told w h
step_holds tale w (Turn who) f h = holds_nothing tale.told w h
step_holds tale w (Recall server field) f h = holds_nothing tale.told w h
step_holds tale w (Move at prefix to) f h = holds_nothing tale.told w h

-- ## What holds then

pub first_holds : Holds [] first_direct
first_holds = record {
  serial = refl;
  counted = λ s. record { numbered = tt; counted = ap (λ o. unwrap_or o 0) (sym (get-empty nat_cmp s.0)) };
  unserved = λ k. refl;
  admitted = λ t m. absurd m;
  asking = tt;
}

pub actors_numbered : (told : List ReplyGiven) (w : Direct) → Holds told w → (who : Peer) → AreNumberedFrom 1 (items_of who w.journal)
actors_numbered told w h (Server k) = subst (AreNumberedFrom 1) (sym (h.unserved k)) tt
actors_numbered told w h (Client s) = (h.counted s).numbered

-- an item that has the number of what was told is the one that was told
pub agree : (told : List ReplyGiven) (w : Direct) → Holds told w → (t : ReplyGiven) (i : Item) → In t told → In i w.journal
    → HasNumberOf i t → Agrees i t
agree told w h t i m at has =
    let found = h.admitted t m in
    subst (λ (x : Item). Agrees x t) (one_item w.journal t.session found.0 i (h.counted t.session).numbered found.1 at found.2.by has.by
    (found.2.n ∙ sym has.n)) found.3
