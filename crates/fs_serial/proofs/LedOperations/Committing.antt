-- An operation that is led commits where the rows of all its leases stand.
use Rattle.std.proofs.Common.{◌≡◌, ◌&&◌, ℕ, ◌⊎◌, true, List, refl, sym, ap, ◌∙◌, inl, inr, false}
use Rattle.std.specs.Prelude.{Some}
use Rattle.std.specs.FinMap.{get}
use Rattle.fs_ident.specs.Ident.{same}
use Rattle.fs_ident.specs.In.{In}
use Rattle.fs_ident.specs.declared.actor.Session.{Session}
use Rattle.fs_ident.specs.declared.kind.Kind.TheVariants.{Dir, File}
use Rattle.fs_ident.specs.declared.kind.Kind.{Kind}
use Rattle.fs_model.specs.Namespace.{NodeMap}
use Rattle.fs_model.specs.Sound.{IsSound, child_of, kind_of}
use Rattle.fs_model.specs.Step.{step}
use Rattle.fs_model.specs.declared.op.Op.{Op}
use Rattle.fs_model.specs.declared.op.Op.TheVariants as op
use Rattle.fs_model.specs.declared.reply.Reply.{Reply}
use Rattle.fs_model.specs.declared.reply.Reply.TheVariants as reply
use Rattle.fs_model.specs.Asking.{home_of}
use Rattle.fs_model.specs.Ancestors.{is_on_chain}
use Rattle.fs_msg.specs.declared.entry.Entry.{Entry}
use Rattle.fs_record.specs.LedEffects.{moves_or_removes, named_file}
use Rattle.fs_record.specs.Records.{RecordMap, node_of, nodes_of}
use Rattle.fs_record.specs.ValueOf.{value_of}
use Rattle.fs_record.proofs.NodeMaps.{node_there}
use Rattle.fs_client.specs.Led.{file_known, is_led}
use Rattle.fs_client.specs.declared.led.Led.{Led}
use Rattle.fs_server.specs.Leads.{reply_of}
use Rattle.fs_view.specs.Gone.{known_with}
use Rattle.fs_view.specs.Laws.{but_cycle}
use Rattle.fs_view.specs.Walk.{always, known_in, walk}
use Rattle.fs_view.proofs.Led.{deletes, renames}
use Rattle.fs_serial.specs.Commits.{IsCommitted}
use Rattle.fs_serial.specs.Led.{IsLeadAnswer, LedStands}
use Rattle.fs_serial.specs.Leading.{ComesInto}
use Rattle.fs_serial.specs.Pending.{AllStand, IsCovered}
use Rattle.fs_serial.specs.Settled.{Settled}
use Rattle.fs_serial.specs.Sight.{Sight}
use Rattle.fs_serial.proofs.LedOperations.Cycles.{no_cycle, off_chain}
use Rattle.fs_serial.proofs.Lists.Journals.{known_nodes}
use Rattle.fs_serial.proofs.LedOperations.MovedItems.{moved_parts}
use Rattle.fs_field.specs.declared.asked.Need.{Need}

-- what is led moves or removes, and gets the reply of such an operation
pub led_moves : (o : Op) (r : Reply) → is_led o r ≡ true → moves_or_removes o ≡ true
led_moves (op.Delete dir name) reply.Deleted h = refl
led_moves (op.Rename sdir sname ddir dname) reply.Renamed h = h
led_moves (op.Delete dir name) r h = absurd (cc)
led_moves (op.Rename sdir sname ddir dname) r h = absurd (cc)
led_moves o r h = absurd (cc)

pub led_reply : (o : Op) (r : Reply) → is_led o r ≡ true → reply_of o ≡ r
led_reply (op.Delete dir name) reply.Deleted h = refl
led_reply (op.Rename sdir sname ddir dname) reply.Renamed h = refl
led_reply (op.Delete dir name) r h = absurd (cc)
led_reply (op.Rename sdir sname ddir dname) r h = absurd (cc)
led_reply o r h = absurd (cc)

-- a rename of a file, or within one directory, or into one that is not below the file; or a delete
abbrev pub StaysApart : RecordMap → Op → List ℕ → Type 0
StaysApart m (op.Rename sdir sname ddir dname) file =
    (kind_of (node_of (get m file)) ≡ Some File) ⊎ ((same sdir ddir ≡ true) ⊎ (is_on_chain (nodes_of m) file ddir ≡ false))
StaysApart m o file = Unit {0}

but_for : (r : Reply) → but_cycle r ≡ reply.Renamed → (r ≡ reply.Cycle → ⊥) → r ≡ reply.Renamed
but_for reply.Cycle h never = absurd (never refl)
but_for r h never = h

cycle_for : (r : Reply) → but_cycle r ≡ reply.Renamed → (r ≡ reply.Renamed → ⊥) → r ≡ reply.Cycle
cycle_for reply.Cycle h never = refl
cycle_for reply.Renamed h never = absurd (never refl)
cycle_for r h never = absurd (cc h)

module _ (m : RecordMap) (by : Session) (sound : IsSound (nodes_of m)) where
  abbrev nodes : NodeMap
  nodes = nodes_of m

  named_there : (o : Op) (r : Reply) (file : List ℕ) → is_led o r ≡ true → file_known (known_with (value_of m by)) o ≡ Some file → named_file nodes o ≡ Some file
  named_there (op.Delete dir name) r file l h = ap (λ n. child_of n name) (node_there m dir) ∙ h
  named_there (op.Rename sdir sname ddir dname) r file l h = ap (λ n. child_of n sname) (node_there m sdir) ∙ h
  named_there o r file l h = absurd (cc)

  walked : (o : Op) (r : Reply) → (walk (known_with (value_of m by)) always o).reply ≡ Some r → (walk (known_in nodes by) always o).reply ≡ Some r
  walked o r h = ap (λ k. (walk k always o).reply) (sym (known_nodes m by)) ∙ h

  reply_there : (o : Op) (r : Reply) (file : List ℕ) → is_led o r ≡ true → (walk (known_with (value_of m by)) always o).reply ≡ Some r → named_file nodes o ≡ Some file → StaysApart m o file → (step nodes by o).reply ≡ r
  reply_there (op.Delete dir name) r file l h n apart = let q : Some (step nodes by (op.Delete dir name)).reply ≡ Some r = sym (deletes nodes by dir name sound) ∙ walked (op.Delete dir name) r h in cc
  reply_there (op.Rename sdir sname ddir dname) reply.Renamed file l h n apart =
      let o = op.Rename sdir sname ddir dname in
      let q : Some (but_cycle (step nodes by o).reply) ≡ Some reply.Renamed = sym (renames nodes by sdir sname ddir dname) ∙ walked o reply.Renamed h in
      let p : but_cycle (step nodes by o).reply ≡ reply.Renamed = cc in
      but_for (step nodes by o).reply p (no_cycle nodes sound sdir sname ddir dname file n by (elim apart as
      (λ _. (kind_of (get nodes file) ≡ Some File) ⊎ ((same sdir ddir ≡ true) ⊎ (is_on_chain nodes file ddir ≡ false))) [
        | inl k ↦ inl (ap kind_of (node_there m file) ∙ k)
        | inr t ↦ inr t
      ]))
  reply_there (op.Rename sdir sname ddir dname) r file l h n apart = absurd (cc)
  reply_there o r file l h n apart = absurd (cc)

  -- a directory comes into another one, and is on the chain of that one
  cycle_there : (kind : Kind) (o : Op) (r : Reply) (file : List ℕ) → is_led o r ≡ true → ComesInto kind o
      → (walk (known_with (value_of m by)) always o).reply ≡ Some r → named_file nodes o ≡ Some file
      → is_on_chain nodes file (home_of o) ≡ true → (step nodes by o).reply ≡ reply.Cycle
  cycle_there Dir (op.Rename sdir sname ddir dname) reply.Renamed file l off h n on =
      let o = op.Rename sdir sname ddir dname in
      let q : Some (but_cycle (step nodes by o).reply) ≡ Some reply.Renamed = sym (renames nodes by sdir sname ddir dname) ∙ walked o reply.Renamed h in
      let p : but_cycle (step nodes by o).reply ≡ reply.Renamed = cc in
      cycle_for (step nodes by o).reply p (λ renamed.
      let other : (same sdir ddir && same sname dname) ≡ false = ap (λ b. b && same sname dname) off in
      let wrong : true ≡ false = sym on ∙ off_chain nodes sdir sname ddir dname file other (get nodes sdir) n renamed in
      absurd (cc wrong))
  cycle_there Dir (op.Rename sdir sname ddir dname) r file l off h n on = absurd (cc l)
  cycle_there kind o r file l off h n on = absurd off

-- what does not stand on whether it would make a cycle: it moves or removes this file, and its leases cover what it stands on
pub record IsNamed (s : Sight) (by : Session) (e : Entry) (file : List ℕ) : Type 0 where
  pub moves : moves_or_removes e.op ≡ true
  pub named : named_file (nodes_of s.records) e.op ≡ Some file
  pub covered : (n : Need) → In n (walk (known_with (value_of s.records by)) always e.op).items → IsCovered e.uses n

module _ (skew greatest : ℕ) (s : Sight) (by : Session) (d : Settled) (l : Led) (h : LedStands skew greatest s by d l)
    (sound : IsSound (nodes_of s.records)) (stand : AllStand s.rows by l.entry.uses) where
  its : IsLeadAnswer (value_of s.records by) l
  its = h.right stand

  pub named_led : IsNamed s by l.entry l.file
  named_led = record {
    moves = led_moves l.entry.op l.entry.reply h.leads;
    named = named_there s.records by sound l.entry.op l.entry.reply l.file h.leads
        (moved_parts (known_with (value_of s.records by)) l.entry.op (l.file, l.kind) its.moved).0;
    covered = its.answer.covered;
  }

  pub committed_led : StaysApart s.records l.entry.op l.file → IsCommitted s by d l.entry l.file
  committed_led apart = record {
    moves = named_led.moves;
    named = named_led.named;
    reply = reply_there s.records by sound l.entry.op l.entry.reply l.file h.leads its.answer.reply named_led.named apart;
    stand = stand;
    covered = named_led.covered;
    number = h.number;
    empty = h.empty;
  }

  -- with this reply it changes nothing
  abbrev pub cycle_of : Entry
  cycle_of = record (l.entry) { reply = reply.Cycle }

  pub cycled_led : (kind : Kind) → ComesInto kind l.entry.op → is_on_chain (nodes_of s.records) l.file (home_of l.entry.op) ≡ true
      → IsCommitted s by d cycle_of l.file
  cycled_led kind comes on = record {
    moves = named_led.moves;
    named = named_led.named;
    reply = cycle_there s.records by sound kind l.entry.op l.entry.reply l.file h.leads comes its.answer.reply named_led.named on;
    stand = stand;
    covered = named_led.covered;
    number = h.number;
    empty = h.empty;
  }

-- what the lease on the life of the file tells is what it is
pub kind_there : (m : RecordMap) (by : Session) (l : Led) → IsLeadAnswer (value_of m by) l → kind_of (node_of (get m l.file)) ≡ Some l.kind
kind_there m by l a = let p = moved_parts (known_with (value_of m by)) l.entry.op (l.file, l.kind) a.moved in p.1
