-- A led operation that commits: a delete or a rename that gets its reply, in one step of what servers hold together.
use Rattle.std.specs.Prelude.{◌≡◌, ◌==◌, ℕ, true, false, List, [], ◌∷◌, ◌++◌, Some}
use Rattle.fs_ident.specs.In.{In}
use Rattle.fs_ident.specs.declared.actor.Session.{Session}
use Rattle.fs_field.specs.declared.asked.Need.{Need}
use Rattle.fs_field.specs.declared.effect.Effect.{Effect}
use Rattle.fs_model.specs.Step.{step}
use Rattle.fs_msg.specs.declared.entry.Entry.{Entry}
use Rattle.fs_msg.specs.declared.item.Item.{Item}
use Rattle.fs_record.specs.Applied.{records_after_all}
use Rattle.fs_record.specs.LedEffects.{led_effects, moves_or_removes, named_file}
use Rattle.fs_record.specs.Records.{nodes_of}
use Rattle.fs_record.specs.ValueOf.{value_of}
use Rattle.fs_server.specs.Ships.{item_of}
use Rattle.fs_view.specs.Gone.{known_with}
use Rattle.fs_view.specs.Walk.{always, walk}
use Rattle.fs_serial.specs.Parts.{AllHold, with_client, with_replies}
use Rattle.fs_serial.specs.Pending.{AllStand, IsCovered}
use Rattle.fs_serial.specs.Relies.{Relies}
use Rattle.fs_serial.specs.Settled.{Settled, led_done}
use Rattle.fs_serial.specs.Sight.{Sight}

-- the operation moves or removes the file and gets its reply from the namespace; the rows of all leases that it used stand, and
-- these cover what it stands on; it is its session's next operation, behind an empty log
pub record IsCommitted (s : Sight) (by : Session) (d : Settled) (e : Entry) (file : List ℕ) : Type 0 where
  pub moves : moves_or_removes e.op ≡ true
  pub named : named_file (nodes_of s.records) e.op ≡ Some file
  pub reply : (step (nodes_of s.records) by e.op).reply ≡ e.reply
  pub stand : AllStand s.rows by e.uses
  pub covered : (n : Need) → In n (walk (known_with (value_of s.records by)) always e.op).items → IsCovered e.uses n
  pub number : e.n ≡ d.next
  pub empty : d.log ≡ []

abbrev pub effects_led : List ℕ → Entry → List Effect
effects_led file e = led_effects e.op file e.reply

-- its effects are done, and it joins the journal
abbrev pub with_commit : Session → List ℕ → Entry → Sight → Sight
with_commit by file e s = record s {
  records = records_after_all s.records (effects_led file e);
  stored = records_after_all s.stored (effects_led file e);
  journal = s.journal ++ item_of by e ∷ [];
}

-- its session is told so
abbrev pub with_led : Session → List ℕ → Entry → Settled → Settled
with_led by file e d = led_done by (effects_led file e) d

-- all parts hold then
abbrev pub CommitKeepsParts : Type 0
CommitKeepsParts =
    (skew greatest : ℕ) (s : Sight) (replied : Session → List Item) (clients : Session → Settled) (by : Session) (e : Entry) (file : List ℕ)
    → AllHold skew greatest s replied clients → IsCommitted s by (clients by) e file
    → AllHold skew greatest (with_commit by file e s) (with_replies by (replied by ++ item_of by e ∷ []) replied)
    (with_client by (with_led by file e (clients by)) clients)

-- and all other sessions can go on
abbrev pub CommitIsRelied : Type 0
CommitIsRelied =
    (skew greatest : ℕ) (s : Sight) (replied : Session → List Item) (clients : Session → Settled) (by x : Session) (e : Entry)
    (file : List ℕ) → AllHold skew greatest s replied clients → IsCommitted s by (clients by) e file → (by.0 == x.0) ≡ false
    → Relies skew greatest x s (with_commit by file e s)
