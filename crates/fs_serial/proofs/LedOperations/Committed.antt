-- A led operation commits: what others rely on, and all parts.
use Rattle.std.proofs.Common.{◌≡◌, ℕ, ◌+◌, ◌<◌, ◌==◌, not, Bool, true, false, List, [], ◌∷◌, ◌++◌, ◌⊎◌, refl, sym, ap, ap₂, ◌∙◌, subst, inl, inr, cond, append-nil, arith}
use Rattle.std.specs.Prelude.{Option, Some, None, is_some}
use Rattle.std.specs.FinMap.{get}
use Rattle.std.specs.List.{list_any}
use mathlib.Core.Path.{fun_ext}
use Rattle.fs_ident.specs.In.{In}
use Rattle.fs_ident.specs.Ident.{child, same}
use Rattle.fs_ident.specs.declared.actor.Session.{Session}
use Rattle.fs_ident.specs.declared.kind.Kind.{Kind}
use Rattle.fs_ident.specs.declared.kind.Kind.TheVariants.{Dir}
use Rattle.fs_ident.proofs.Same.{one_session}
use Rattle.fs_ident.proofs.Standing.{In-map}
use Rattle.fs_field.specs.Field.{file_of}
use Rattle.fs_field.specs.declared.asked.Need.{Need}
use Rattle.fs_field.specs.declared.field.Field.{Field}
use Rattle.fs_field.specs.declared.field.Field.TheVariants.{Life, Child, Names, Info, Own, SelfW, Other}
use Rattle.fs_field.specs.declared.row.Row.{Row}
use Rattle.fs_field.specs.declared.value.Value.TheVariants as value
use Rattle.fs_model.specs.Namespace.{first_space}
use Rattle.fs_model.specs.Sound.{AsksAccess, IsSound, kind_of}
use Rattle.fs_model.specs.Step.{step}
use Rattle.fs_model.specs.declared.node.Node.{Node}
use Rattle.fs_model.specs.declared.op.Op.{Op}
use Rattle.fs_model.specs.declared.op.Op.TheVariants as op
use Rattle.fs_model.specs.declared.reply.Reply.{Reply}
use Rattle.fs_model.specs.declared.reply.Reply.TheVariants as reply
use Rattle.fs_model.proofs.SoundRuns.{step_sound}
use Rattle.fs_moderows.specs.Kept.{KeptPromises}
use Rattle.fs_moderows.proofs.Witnesses.{In_none}
use Rattle.fs_msg.specs.Journal.{is_reap}
use Rattle.fs_msg.specs.declared.entry.Entry.{Entry}
use Rattle.fs_msg.specs.declared.item.Item.{Item}
use Rattle.fs_record.specs.LedEffects.{led_effects, moves_or_removes}
use Rattle.fs_record.specs.Records.{RecordMap, node_of, nodes_of}
use Rattle.fs_record.specs.ValueOf.{selves_in, selves_of, value_at, value_of}
use Rattle.fs_record.proofs.AllApplied.{after_all_kept}
use Rattle.fs_record.proofs.LedStepping.{led_effects_lead}
use Rattle.fs_server.specs.Ships.{item_of}
use Rattle.fs_view.specs.ViewLease.{makes}
use Rattle.fs_view.specs.Laws.{item_meets}
use Rattle.fs_view.specs.LedLaws.{IsLed, IsOfNone}
use Rattle.fs_view.specs.View.{value_after_all}
use Rattle.fs_view.specs.Walk.{always, known_in, walk}
use Rattle.fs_view.proofs.LedValues.{led_follows, led_handles, led_lives, led_stays}
use Rattle.fs_serial.specs.Commits.{CommitIsRelied, CommitKeepsParts, IsCommitted, effects_led, with_commit, with_led}
use Rattle.fs_serial.specs.Fresh.{Claim, FreshReserved, IsMade, LivesTold, NodesMade, TellsLife, Reserved, made, made_by, or_else, reserved_by}
use Rattle.fs_serial.specs.Gone.{IsOfGone}
use Rattle.fs_serial.specs.Leases.{FreshLeases, IsBacked, IsFresh, IsRowOf, LeasesDistinct, LeasesTrue}
use Rattle.fs_serial.specs.Numbers.{AreNumbered, all_items, items_by}
use Rattle.fs_serial.specs.Parts.{AllHold, ServersFit, ServersHold, SessionFits, SessionHolds, with_client, with_replies}
use Rattle.fs_serial.specs.Pending.{IsCovered, PendingStand}
use Rattle.fs_serial.specs.Relies.{Relies}
use Rattle.fs_serial.specs.Rows.{PromisesKept}
use Rattle.fs_serial.specs.Serial.{AreSound, JournalSerial}
use Rattle.fs_serial.specs.Settled.{Lease, Settled, lease_after}
use Rattle.fs_serial.specs.Sight.{Sight}
use Rattle.fs_serial.proofs.Admission.Admit.{stays_below}
use Rattle.fs_serial.proofs.Admission.AdmitAll.{fewer_anew}
use Rattle.fs_serial.proofs.Grants.Claims.{NoneAnew, Was, none_anew}
use Rattle.fs_serial.proofs.Admission.AdmitOthers.{no_item_meets}
use Rattle.fs_serial.proofs.Lists.Journals.{each_image, items-other, items-own, known_nodes, made-append, made_before, made_one, nodes_all, or_none, reaps-still, serial_push, session_itself}
use Rattle.fs_serial.proofs.OtherSessions.Gone.{all_anew, gone_later, made_more}
use Rattle.fs_serial.proofs.OtherSessions.Relied.{relied_fits, relied_holds}
use Rattle.fs_serial.proofs.Replies.Reply.{number_more}
use Rattle.fs_serial.proofs.DecidedEffects.FewerDirectories.{FewerDirectories, MakeNone, fewer_then, reserved_later, reserved_there}
use Rattle.fs_serial.proofs.OtherSessions.Together.{each_session, fewer_reserved}

-- ## Deletes and renames

never_reaps : (o : Op) → moves_or_removes o ≡ true → not (is_reap o) ≡ true
never_reaps (op.Reap file session) h = absurd (cc)
never_reaps o h = refl

asks_none : (o : Op) → moves_or_removes o ≡ true → AsksAccess o
asks_none (op.OpenFile file h modes) m = absurd (cc)
asks_none o m = tt

makes_none : (o : Op) (r : Reply) (id : List ℕ) → moves_or_removes o ≡ true → made_by o r id ≡ None
makes_none (op.Create dir name kind new) r id h = absurd (cc)
makes_none o r id h = refl

unless_same : (b : Bool) → cond {A = Option Kind} b None None ≡ None
unless_same true = refl
unless_same false = refl

kept_dir : (b : Bool) (l : Option Kind) → cond b None l ≡ Some Dir → l ≡ Some Dir
kept_dir true l h = absurd (cc)
kept_dir false l h = h

-- a directory that lives then lived before
lived_led : (by : Session) (o : Op) (file : List ℕ) (r : Reply) (id : List ℕ) (l : Option Kind) → (k : Option Kind) × ((value_after_all by (Life id) (value.Life l) (led_effects o file r) ≡ value.Life k) × (k ≡ Some Dir → l ≡ Some Dir))
lived_led by (op.Delete dir name) file reply.Deleted id l = (cond (same id file) None l, (refl, kept_dir (same id file) l))
lived_led by (op.Rename sdir sname ddir dname) file reply.Renamed id l = (l, (refl, λ e. e))
lived_led by o file r id l = (l, (refl, λ e. e))

-- what does not live lives no more then
unborn_led : (by : Session) (o : Op) (file : List ℕ) (r : Reply) (id : List ℕ) → value_after_all by (Life id) (value.Life None) (led_effects o file r) ≡ value.Life None
unborn_led by (op.Delete dir name) file reply.Deleted id = ap value.Life (unless_same (same id file))
unborn_led by (op.Rename sdir sname ddir dname) file reply.Renamed id = refl
unborn_led by o file r id = refl

never_again : (o p : Option Node) → ((k : Kind) → kind_of p ≡ Some k → kind_of o ≡ Some k) → o ≡ None → p ≡ None
never_again o None h e = refl
never_again o (Some n) h e = let q : None ≡ Some n.kind = sym (ap kind_of e) ∙ h n.kind refl in absurd (cc)

-- its effects make no file
pub led_births : (o : Op) (file : List ℕ) (r : Reply) → MakeNone (led_effects o file r)
led_births (op.Delete dir name) file reply.Deleted id = refl
led_births (op.Rename sdir sname ddir dname) file reply.Renamed id = refl
led_births o file r id = refl

-- ## The servers, and the others

module _ (skew greatest : ℕ) (s : Sight) (by : Session) (d : Settled) (e : Entry) (file : List ℕ) (c : IsCommitted s by d e file) (sh : ServersHold s) (sf : ServersFit s) where
  abbrev item : Item
  item = item_of by e

  abbrev after : Sight
  after = with_commit by file e s

  led : IsLed s.records by e.op file e.reply
  led = record { records = sf.sound.records; space = sf.sound.space; moves = c.moves; named = c.named; reply = c.reply }

  sees : (x : Session) (g : Field) → value_of after.records x g ≡ value_after_all x g (value_of s.records x g) (effects_led file e)
  sees x g = led_follows s.records by x e.op file e.reply g led

  lives : (id : List ℕ) (k : Kind) → kind_of (node_of (get after.records id)) ≡ Some k → kind_of (node_of (get s.records id)) ≡ Some k
  lives id k h = led_lives s.records by e.op file e.reply led id k h

  stays_gone : (id : List ℕ) → node_of (get s.records id) ≡ None → node_of (get after.records id) ≡ None
  stays_gone id none = never_again (node_of (get s.records id)) (node_of (get after.records id)) (lives id) none

  promises : PromisesKept after.records s.rows
  promises =
      let same : selves_in after.records ≡ selves_in s.records = fun_ext (λ f. ap selves_of (led_handles s.records by e.op file e.reply led f)) in
      subst (λ selves. KeptPromises selves s.rows) (sym same) sh.promises

  leads : nodes_of after.records ≡ (step (nodes_of s.records) by e.op).nodes
  leads = nodes_all s.records (effects_led file e) ∙ led_effects_lead (nodes_of s.records) by e.op file e.reply c.moves c.named c.reply

  serial : JournalSerial after.journal after.records
  serial = serial_push first_space s.journal (nodes_of s.records) (nodes_of after.records) item sh.serial (never_reaps e.op c.moves) c.reply (sym leads)

  sound : AreSound after.records
  sound = record {
    space = subst IsSound (sym leads) (step_sound (nodes_of s.records) by e.op sf.sound.space (asks_none e.op c.moves));
    records = after_all_kept s.records (effects_led file e) sf.sound.records;
  }

  made_still : NodesMade after.records after.journal
  made_still id kind p = made-append s.journal item id ∙ ap (or_else (made s.journal id)) (makes_none e.op e.reply id c.moves) ∙ or_none (made s.journal id) ∙ sf.made id kind (lives id kind p)

  pub commit_holds : ServersHold after
  commit_holds = record { apart = sh.apart; promises = promises; serial = serial; reaped = reaps-still s.reaps s.journal item (λ k. refl) sh.reaped }

  pub commit_fits : ServersFit after
  commit_fits = record { shaped = sf.shaped; counted = sf.counted; given = sf.given; sound = sound; made = made_still }

  -- what tells of a file that does not live then tells of one that went, or nothing new
  went : (x : Session) (field : Field) → IsOfNone after.records field → IsOfGone after.records s.journal field ⊎ (value_of after.records x field ≡ value_of s.records x field)
  went x (Info f) none = within (node_of (get s.records f)) refl
    where
      within : (o : Option Node) → node_of (get s.records f) ≡ o → IsOfGone after.records s.journal (Info f) ⊎ (value_of after.records x (Info f) ≡ value_of s.records x (Info f))
      within None t = inr (ap (value_at x (Info f)) (none ∙ sym t))
      within (Some n) t = inl (ap is_some (sf.made f n.kind (ap kind_of t)), none)
  went x (Life f) none = absurd none
  went x (Child g n) none = absurd none
  went x (Names g) none = absurd none
  went x (Own f) none = absurd none
  went x (SelfW f md) none = absurd none
  went x (Other f md) none = absurd none

  -- what a row of another session is on meets no lease that the operation used
  values : (x : Session) → (by.0 == x.0) ≡ false → (r : Row) → In r s.rows → r.session ≡ x → IsOfGone after.records s.journal r.field ⊎ (value_of after.records x r.field ≡ value_of s.records x r.field)
  values x other r i own =
      let covered : (n : Need) → In n (walk (known_in (nodes_of s.records) by) always e.op).items → IsCovered e.uses n = λ n j. c.covered n (subst (λ k. In n (walk k always e.op).items) (sym (known_nodes s.records by)) j) in
      elim (led_stays s.records by x e.op file e.reply r.field r.kind led
      (In_none (item_meets r.field r.kind) (walk (known_in (nodes_of s.records) by) always e.op).items (λ n j.
      no_item_meets s.rows by r e.uses n sh.apart i (ap (λ (y : Session). by.0 == y.0) own ∙ other) c.stand (covered n j)))) as (λ _. IsOfGone after.records s.journal r.field ⊎ (value_of after.records x r.field ≡ value_of s.records x r.field)) [
        | inl none ↦ went x r.field none
        | inr same ↦ inr same
      ]

  pub commit_relied : (x : Session) → (by.0 == x.0) ≡ false → Relies skew greatest x s after
  commit_relied x other = record {
    given = λ k. omega arith;
    older = λ r i old. record { row = r; stood = i; number = refl; session = refl; field = refl; kind = refl };
    kept = λ r i own live. record { row = r; stands = i; number = refl; lasts = omega arith };
    values = λ r i old own. values x other r i own;
    dirs = λ id was. made_one s.journal item id Dir was;
    made = λ id was. made_more s.journal item id was;
    gone = λ id was none. stays_gone id none;
    items = items-other x s.journal item other;
  }

  -- ## Identifiers

  was_made : (id : List ℕ) → IsMade after.journal id → IsMade s.journal id
  was_made id m = elim (made_before s.journal item id m) as (λ _. IsMade s.journal id) [
    | inl p ↦ p
    | inr p ↦ let none : is_some (made_by e.op e.reply id) ≡ false = ap is_some (makes_none e.op e.reply id c.moves) in absurd (cc)
  ]

  -- whichever of its effects are applied where records are stored
  pub commit_reserved : (old new : Reserved) (stored : RecordMap) → FewerDirectories s.stored stored → ((x : Session) (n : Claim) (i : List ℕ) → new x n i → Was (old x) n i)
      → FreshReserved old s.stored s.journal → FreshReserved new stored after.journal
  commit_reserved old new stored directories fewer f =
      fewer_reserved old new stored after.journal fewer
      (reserved_later old stored s.journal after.journal was_made (reserved_there old s.stored stored s.journal directories f))

  -- ## Its own session

  abbrev told : Lease → Lease
  told = lease_after by (effects_led file e)

  abbrev then : Settled
  then = with_led by file e d

  -- no entry waits
  none_waits : {P : Type 0} (x : Entry) → In x d.log → P
  none_waits x i = absurd (subst (In x) c.empty i)

  telling : LeasesTrue s.rows (IsOfGone s.records s.journal) (value_of s.records by) d.leases → LeasesTrue s.rows (IsOfGone after.records after.journal) (value_of after.records by) then.leases
  telling h = each_image told (λ l. (r : Row) → In r s.rows → r.no ≡ l.no → IsOfGone after.records after.journal l.field ⊎ (l.base ≡ value_of after.records by l.field)) d.leases
      (λ l i r j n. elim (h l i r j n) as (λ _. IsOfGone after.records after.journal l.field ⊎ (value_after_all by l.field l.base (effects_led file e) ≡ value_of after.records by l.field)) [
        | inl gone ↦ inl (gone_later s.records after.records s.journal after.journal (made_more s.journal item) (λ id was none. stays_gone id none) l.field gone)
        | inr same ↦ inr (ap (λ v. value_after_all by l.field v (effects_led file e)) same ∙ sym (sees by l.field))
      ])

  more : all_items by after.journal d.log ≡ all_items by s.journal d.log ++ item ∷ []
  more =
      ap (λ es. all_items by after.journal es) c.empty ∙ append-nil (items_by by after.journal) ∙ items-own by s.journal item (session_itself by)
      ∙ sym (ap (λ is. is ++ item ∷ []) (ap (λ es. all_items by s.journal es) c.empty ∙ append-nil (items_by by s.journal)))

  pub own_holds : (replied : List Item) → SessionHolds skew greatest s by replied d → SessionHolds skew greatest after by (replied ++ item ∷ []) then
  own_holds replied h = record {
    backed = each_image told (λ l. greatest < l.until + skew → IsBacked s.rows l.no l.until) d.leases h.backed;
    telling = telling h.telling;
    pending = subst (PendingStand s.rows by (value_of after.records by)) (sym c.empty) tt;
    numbers = subst (λ is. AreNumbered 1 is (d.next + 1)) (sym more) (number_more 1 (all_items by s.journal d.log) d.next item h.numbers c.number);
    replies = more ∙ ap (λ is. is ++ item ∷ []) h.replies;
  }

  -- a lease on a new file stays fresh: the operation makes none
  fresh : FreshLeases d.leases → FreshLeases then.leases
  fresh f = each_image told (λ l. (dir : List ℕ) → l.below ≡ Some dir → IsFresh dir l) d.leases (λ l i dir b.
      let q = stays_below (list_any (makes (file_of l.field)) (effects_led file e)) l.below dir b in
      let was : IsFresh dir l = f l i dir q.1 in
      record {
        number = was.number;
        field = was.field;
        kind = was.kind;
        base = ap (λ g. value_after_all by g l.base (effects_led file e)) was.field ∙ ap (λ v. value_after_all by (Life (child dir was.number)) v (effects_led file e)) was.base ∙ unborn_led by e.op file e.reply (child dir was.number);
      })

  lives_told : LivesTold s.journal d.leases → LivesTold after.journal then.leases
  lives_told f = each_image told (λ l. (g : List ℕ) → l.field ≡ Life g → TellsLife after.journal g l.base) d.leases (λ l i g on.
      let t : TellsLife s.journal g l.base = f l i g on in
      let q = lived_led by e.op file e.reply g t.life in
      record {
        life = q.0;
        is = ap₂ (λ x v. value_after_all by x v (effects_led file e)) on t.is ∙ q.1.0;
        dir = λ x. made_one s.journal item g Dir (t.dir (q.1.1 x));
      })

  distinct : LeasesDistinct d.leases → LeasesDistinct then.leases
  distinct f l m i j n =
      let p = In-map told l d.leases i in
      let q = In-map told m d.leases j in
      p.1.1 ∙ ap told (f p.0 q.0 p.1.0 q.1.0 (sym (ap (λ (x : Lease). x.no) p.1.1) ∙ n ∙ ap (λ (x : Lease). x.no) q.1.1)) ∙ sym q.1.1

  pub own_fits : SessionFits skew greatest s by d → SessionFits skew greatest after by then
  own_fits f = record {
    given = each_image told _ d.leases f.given;
    distinct = distinct f.distinct;
    matching = each_image told (λ l. (r : Row) → In r s.rows → r.no ≡ l.no → IsRowOf by l.field l.kind r) d.leases f.matching;
    fresh = fresh f.fresh;
    lives = lives_told f.lives;
    held = λ x i. none_waits x i;
    backed = f.backed;
    entries = λ x i. none_waits x i;
    once = f.once;
    refused = f.refused;
    led = tt;
  }

-- ## All parts

module _ (skew greatest : ℕ) (s : Sight) (replied : Session → List Item) (clients : Session → Settled) (by : Session) (e : Entry) (file : List ℕ) (h : AllHold skew greatest s replied clients) (c : IsCommitted s by (clients by) e file) where
  abbrev committed : Sight
  committed = with_commit by file e s

  abbrev now : Settled
  now = with_led by file e (clients by)

  abbrev more_replied : List Item
  more_replied = replied by ++ item_of by e ∷ []

  rely : (x : Session) → (by.0 == x.0) ≡ false → Relies skew greatest x s committed
  rely = commit_relied skew greatest s by (clients by) e file c h.servers h.kept

  sessions : (x : Session) → SessionHolds skew greatest committed x (with_replies by more_replied replied x) (with_client by now clients x)
  sessions x = elim (by.0 == x.0) as (λ b. (by.0 == x.0) ≡ b → SessionHolds skew greatest committed x (cond b more_replied (replied x)) (cond b now (clients x))) [
    | true ↦ λ t. subst (λ y. SessionHolds skew greatest committed y more_replied now) (one_session by x t) (own_holds skew greatest s by (clients by) e file c h.servers h.kept (replied by) (h.sessions by))
    | false ↦ λ t. relied_holds skew greatest x s committed (clients x) (rely x t) (h.fitting x) (all_anew skew greatest s replied clients h x) (replied x) (h.sessions x)
  ] refl

  -- where some of its effects are applied, and the others are on their way
  pub committed_reserved : (stored : RecordMap) → FewerDirectories s.stored stored → FreshReserved (reserved_by (with_client by now clients)) stored committed.journal
  committed_reserved stored directories =
      commit_reserved skew greatest s by (clients by) e file c h.servers h.kept (reserved_by clients) (reserved_by (with_client by now clients)) stored directories
      (each_session (λ x (n : Settled). NoneAnew (clients x) n) by now clients (fewer_anew by (effects_led file e) (clients by) now refl (λ x i. i)) (λ x other. none_anew (clients x))) h.reserved

  pub all_committed : AllHold skew greatest committed (with_replies by more_replied replied) (with_client by now clients)
  all_committed = record {
    servers = commit_holds skew greatest s by (clients by) e file c h.servers h.kept;
    kept = commit_fits skew greatest s by (clients by) e file c h.servers h.kept;
    sessions = sessions;
    fitting = each_session (λ x n. SessionFits skew greatest committed x n) by now clients (own_fits skew greatest s by (clients by) e file c h.servers h.kept (h.fitting by)) (λ x other. relied_fits skew greatest x s committed (clients x) (rely x other) (h.fitting x));
    reserved = committed_reserved committed.stored (fewer_then s.stored (effects_led file e) (led_births e.op file e.reply));
  }

pub commit_keeps_parts : CommitKeepsParts
commit_keeps_parts skew greatest s replied clients by e file h c = all_committed skew greatest s replied clients by e file h c

pub commit_is_relied : CommitIsRelied
commit_is_relied skew greatest s replied clients by x e file h c other = commit_relied skew greatest s by (clients by) e file c h.servers h.kept x other
