-- The server admits an entry: the parts of its own session.
use Rattle.std.proofs.Common.{◌≡◌, ℕ, ◌+◌, ◌<◌, Bool, true, false, List, [], ◌∷◌, ◌++◌, ◌⊎◌, map, refl, sym, ap, ap₂, ◌∙◌, subst, inl, inr, cond, append_assoc}
use Rattle.std.specs.Prelude.{Option, Some, None, is_some}
use Rattle.std.specs.List.{list_any}
use mathlib.Core.Path.{fun_ext}
use Rattle.fs_ident.specs.In.{In}
use Rattle.fs_ident.specs.Ident.{child}
use Rattle.fs_ident.specs.declared.actor.Session.{Session}
use Rattle.fs_ident.specs.declared.kind.Kind.{Kind}
use Rattle.fs_ident.specs.declared.kind.Kind.TheVariants.{Dir}
use Rattle.fs_ident.proofs.Standing.{In-map, In-mapped}
use Rattle.fs_ident.proofs.Options.{not_some}
use Rattle.fs_field.specs.declared.field.Field.{Field}
use Rattle.fs_field.specs.declared.field.Field.TheVariants.{Life}
use Rattle.fs_field.specs.declared.row.Row.{Row}
use Rattle.fs_field.specs.declared.value.Value.TheVariants as value
use Rattle.fs_field.specs.Field.{file_of}
use Rattle.fs_model.specs.Namespace.{first_space}
use Rattle.fs_msg.specs.declared.entry.Entry.{Entry}
use Rattle.fs_msg.specs.declared.item.Item.{Item}
use Rattle.fs_record.specs.Records.{nodes_of}
use Rattle.fs_record.specs.ValueOf.{value_of}
use Rattle.fs_server.specs.Ships.{item_of, with_entry}
use Rattle.fs_server.specs.declared.state.Server.{Server}
use Rattle.fs_view.specs.ViewLease.{makes}
use Rattle.fs_view.specs.View.{value_after_all}
use Rattle.fs_view.proofs.Seeing.{own_values}
use Rattle.fs_client.specs.declared.led.Led.{Led}
use Rattle.fs_serial.specs.Fresh.{LivesTold, TellsLife, made, made_by, or_else}
use Rattle.fs_serial.specs.Gone.{IsOfGone}
use Rattle.fs_serial.specs.Leases.{IsBacked, LeasesBacked, LeasesTrue, LeasesDistinct, IsRowOf, IsFresh, FreshLeases}
use Rattle.fs_serial.specs.Numbers.{items_by, all_items, AreNumbered}
use Rattle.fs_serial.specs.Parts.{ServersHold, ServersFit, SessionHolds, SessionFits}
use Rattle.fs_serial.specs.Pending.{AllStand, IsAnswer, PendingStand, HasLease, UsesHeld, IsEntry}
use Rattle.fs_serial.specs.Serial.{JournalSerial, AreSound}
use Rattle.fs_serial.specs.Settled.{Lease, lease_after, effects_in}
use Rattle.fs_serial.specs.Sight.{Counts, Sight, sight_of}
use Rattle.fs_serial.proofs.LedOperations.LedKept.{each_led}
use Rattle.fs_serial.proofs.Admission.Answered.{answered, leads_there, sound_there, no_reap}
use Rattle.fs_serial.proofs.Admission.Births.{life_after, makes_there}
use Rattle.fs_serial.proofs.Lists.Journals.{each_image, items-own, made-append, made_one, serial_push, session_itself}
use Rattle.fs_serial.proofs.OtherSessions.Gone.{MakeAnew, gone_later, gone_then, made_more}

-- ## Leases on new files

-- what stays reserved was not made
pub stays_below : (b : Bool) (below : Option (List ℕ)) (dir : List ℕ) → cond b None below ≡ Some dir → (b ≡ false) × (below ≡ Some dir)
stays_below true below dir h = absurd (cc)
stays_below false below dir h = (refl, h)

-- a lease on a file that the entry does not make stays fresh
fresh_after : (by : Session) (e : Entry) (l : Lease) (dir : List ℕ) → list_any (makes (file_of l.field)) (effects_in by e) ≡ false → IsFresh dir l → IsFresh dir (lease_after by (effects_in by e) l)
fresh_after by e l dir none f =
    let at : file_of l.field ≡ child dir f.number = ap file_of f.field in
    let unmade : made_by e.op e.reply (child dir f.number) ≡ None = not_some _ (sym (makes_there by e.op e.reply (child dir f.number)) ∙ ap (λ i. list_any (makes i) (effects_in by e)) (sym at) ∙ none) in
    record {
      number = f.number;
      field = f.field;
      kind = f.kind;
      base =
          ap (λ g. value_after_all by g l.base (effects_in by e)) f.field
          ∙ ap (λ v. value_after_all by (Life (child dir f.number)) v (effects_in by e)) f.base
          ∙ life_after by e.op e.reply (child dir f.number) None
          ∙ ap (λ k. value.Life (or_else k None)) unmade;
    }

-- ## The parts

module _ (o : Counts) (skew greatest : ℕ) (s : Server) (journal : List Item) (by : Session) (replied : List Item) (leases : List Lease) (e : Entry) (es : List Entry) (next : ℕ) (led : Option Led)
    (stand : AllStand s.rows by e.uses)
    (sh : ServersHold (sight_of o s journal)) (sf : ServersFit (sight_of o s journal))
    (h : SessionHolds skew greatest (sight_of o s journal) by replied (record { leases = leases; log = e ∷ es; next = next; over = None; led = led }))
    (f : SessionFits skew greatest (sight_of o s journal) by (record { leases = leases; log = e ∷ es; next = next; over = None; led = led })) where
  -- the servers, and the client, after it
  abbrev after : Sight
  after = sight_of o (with_entry by e s) (journal ++ item_of by e ∷ [])

  abbrev then : List Lease
  then = map (lease_after by (effects_in by e)) leases

  pub plain : IsEntry e
  plain = f.entries e (inl refl)

  pub right : IsAnswer (value_of s.records by) e
  right = (h.pending stand).0

  -- what the session sees
  own : (g : Field) → value_of after.records by g ≡ value_after_all by g (value_of s.records by g) (effects_in by e)
  own g = own_values s.records by e.op e.reply g sf.sound.records plain.plain (answered s.records by e plain right)

  pub serial : JournalSerial after.journal after.records
  serial = serial_push first_space journal (nodes_of s.records) (nodes_of after.records) (item_of by e) sh.serial (no_reap e.op plain.plain) (answered s.records by e plain right) (sym (leads_there s.records by e plain right))

  pub sound : AreSound after.records
  sound = sound_there s.records by e plain right sf.sound

  -- ### What is promised of the session

  backed : LeasesBacked skew greatest s.rows then
  backed = each_image (lease_after by (effects_in by e)) (λ l. greatest < l.until + skew → IsBacked s.rows l.no l.until) leases h.backed

  telling : MakeAnew by journal (e ∷ es) → LeasesTrue s.rows (IsOfGone after.records after.journal) (value_of after.records by) then
  telling anew = each_image (lease_after by (effects_in by e)) (λ l. (r : Row) → In r s.rows → r.no ≡ l.no → IsOfGone after.records after.journal l.field ⊎ (l.base ≡ value_of after.records by l.field)) leases
      (λ l i r j n. elim (h.telling l i r j n) as (λ _. IsOfGone after.records after.journal l.field ⊎ (value_after_all by l.field l.base (effects_in by e) ≡ value_of after.records by l.field)) [
        | inl gone ↦ inl (gone_later s.records after.records journal after.journal (made_more journal (item_of by e)) (λ file was. gone_then s.records by e plain right sf.sound file (anew e (inl refl) file was)) l.field gone)
        | inr same ↦ inr (ap (λ v. value_after_all by l.field v (effects_in by e)) same ∙ sym (own l.field))
      ])

  pending : PendingStand s.rows by (value_of after.records by) es
  pending = subst (λ v. PendingStand s.rows by v es) (fun_ext (λ g. sym (own g))) (h.pending stand).1

  border : all_items by after.journal es ≡ all_items by journal (e ∷ es)
  border = ap (λ is. is ++ map (item_of by) es) (items-own by journal (item_of by e) (session_itself by)) ∙ append_assoc (items_by by journal) (item_of by e ∷ []) (map (item_of by) es)

  pub holds : MakeAnew by journal (e ∷ es) → SessionHolds skew greatest after by replied (record { leases = then; log = es; next = next; over = None; led = led })
  holds anew = record {
    backed = backed;
    telling = telling anew;
    pending = pending;
    numbers = subst (λ is. AreNumbered 1 is next) (sym border) h.numbers;
    replies = border ∙ h.replies;
  }

  -- ### What keeps it so

  distinct : LeasesDistinct then
  distinct l m i j n =
      let p = In-map (lease_after by (effects_in by e)) l leases i in
      let q = In-map (lease_after by (effects_in by e)) m leases j in
      p.1.1 ∙ ap (lease_after by (effects_in by e)) (f.distinct p.0 q.0 p.1.0 q.1.0 (sym (ap (λ (x : Lease). x.no) p.1.1) ∙ n ∙ ap (λ (x : Lease). x.no) q.1.1)) ∙ sym q.1.1

  fresh : FreshLeases then
  fresh = each_image (lease_after by (effects_in by e)) (λ l. (dir : List ℕ) → l.below ≡ Some dir → IsFresh dir l) leases (λ l i dir b.
      let q = stays_below (list_any (makes (file_of l.field)) (effects_in by e)) l.below dir b in
      fresh_after by e l dir q.0 (f.fresh l i dir q.1))

  -- a directory that it makes was not made before
  makes_dir : MakeAnew by journal (e ∷ es) → (file : List ℕ) (life made_now : Option Kind) → made_by e.op e.reply file ≡ made_now → (life ≡ Some Dir → made journal file ≡ Some Dir)
      → or_else made_now life ≡ Some Dir → made after.journal file ≡ Some Dir
  makes_dir anew file life None m old is = made_one journal (item_of by e) file Dir (old is)
  makes_dir anew file life (Some kind) m old is =
      made-append journal (item_of by e) file ∙ ap (or_else (made journal file)) (m ∙ is)
      ∙ ap (λ k. or_else k (Some Dir)) (not_made (made journal file) refl)
    where
      not_made : (k : Option Kind) → made journal file ≡ k → made journal file ≡ None
      not_made None q = q
      not_made (Some k) q =
          let new : list_any (makes file) (effects_in by e) ≡ true = makes_there by e.op e.reply file ∙ ap is_some m in
          let wrong : true ≡ false = sym new ∙ anew e (inl refl) file (ap is_some q) in
          absurd (cc wrong)

  lives : MakeAnew by journal (e ∷ es) → LivesTold after.journal then
  lives anew = each_image (lease_after by (effects_in by e)) (λ l. (file : List ℕ) → l.field ≡ Life file → TellsLife after.journal file l.base) leases (λ l i file on.
      let t : TellsLife journal file l.base = f.lives l i file on in
      record {
        life = or_else (made_by e.op e.reply file) t.life;
        is = ap₂ (λ g v. value_after_all by g v (effects_in by e)) on t.is ∙ life_after by e.op e.reply file t.life;
        dir = makes_dir anew file t.life (made_by e.op e.reply file) refl t.dir;
      })

  held : UsesHeld then es
  held x i u j =
      let q : HasLease leases u = f.held x (inr i) u j in
      record { lease = lease_after by (effects_in by e) q.lease; held = In-mapped (lease_after by (effects_in by e)) q.lease leases q.held; number = q.number; field = q.field; kind = q.kind }

  pub fits : MakeAnew by journal (e ∷ es) → SessionFits skew greatest after by (record { leases = then; log = es; next = next; over = None; led = led })
  fits anew = record {
    given = each_image (lease_after by (effects_in by e)) _ leases f.given;
    distinct = distinct;
    matching = each_image (lease_after by (effects_in by e)) (λ l. (r : Row) → In r s.rows → r.no ≡ l.no → IsRowOf by l.field l.kind r) leases f.matching;
    fresh = fresh;
    lives = lives anew;
    held = held;
    backed = λ x i. f.backed x (inr i);
    entries = λ x i. f.entries x (inr i);
    once = f.once.1;
    refused = λ n o. absurd (cc);
    led = each_led skew greatest greatest (sight_of o s journal) after by (record { leases = leases; log = e ∷ es; next = next; over = None; led = led }) (record { leases = then; log = es; next = next; over = None; led = led }) led (λ l is h. absurd (let q : e ∷ es ≡ [] = h.empty in cc)) f.led;
  }
