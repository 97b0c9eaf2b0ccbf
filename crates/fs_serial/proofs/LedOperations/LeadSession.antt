-- A client asks a server to lead an operation: all that holds of its session.
use Rattle.std.proofs.Common.{◌≡◌, ℕ, ◌+◌, ◌<◌, ◌≤◌, true, List, [], ◌∷◌, ◌++◌, ◌⊎◌, map, refl, sym, ap, ◌∙◌, subst, inl, inr, arith}
use Rattle.std.specs.FinMap.{get}
use Rattle.std.specs.Prelude.{Some, None, is_some, option_map}
use Rattle.fs_ident.specs.In.{In}
use Rattle.fs_ident.specs.declared.actor.Session.{Session}
use Rattle.fs_ident.specs.declared.kind.Kind.{Kind}
use Rattle.fs_ident.specs.declared.kind.Kind.TheVariants.{Dir}
use Rattle.fs_field.specs.Field.{file_of}
use Rattle.fs_field.specs.declared.asked.Need.{Need}
use Rattle.fs_field.specs.declared.asked.Need.TheVariants as need
use Rattle.fs_field.specs.declared.field.Field.{Field}
use Rattle.fs_field.specs.declared.field.Field.TheVariants.{Child, Life}
use Rattle.fs_field.specs.declared.lease_kind.LeaseKind.{LeaseKind}
use Rattle.fs_field.specs.declared.lease_kind.LeaseKind.TheVariants.{Exclusive, Shared}
use Rattle.fs_field.specs.declared.used.Use.{Use}
use Rattle.fs_field.specs.declared.value.Value.{Value}
use Rattle.fs_field.specs.declared.value.Value.TheVariants as value
use Rattle.fs_model.specs.Asking.{home_of}
use Rattle.fs_model.specs.Sound.{kind_of}
use Rattle.fs_model.specs.declared.op.Op.{Op}
use Rattle.fs_model.specs.declared.reply.Reply.{Reply}
use Rattle.fs_msg.specs.declared.answer.Answer.{Answer}
use Rattle.fs_msg.specs.declared.client_msg.ClientMsg.{ClientMsg}
use Rattle.fs_msg.specs.declared.client_msg.ClientMsg.TheVariants.{Lead}
use Rattle.fs_msg.specs.declared.entry.Entry.{Entry}
use Rattle.fs_msg.specs.declared.item.Item.{Item}
use Rattle.fs_record.specs.Records.{node_of}
use Rattle.fs_record.specs.ValueOf.{value_of}
use Rattle.fs_client.specs.Acts.{led_with}
use Rattle.fs_client.specs.Client.{with_lead}
use Rattle.fs_client.specs.Led.{is_led, lead_of, moved_known}
use Rattle.fs_client.specs.Turns.{pair_of}
use Rattle.fs_client.specs.declared.led.Led.{Led}
use Rattle.fs_client.specs.declared.state.Client.{Client}
use Rattle.fs_txn.specs.Parts.{led_files}
use Rattle.fs_txn.specs.declared.mode.Mode2.TheVariants.{Plain}
use Rattle.fs_view.specs.declared.view_lease.ViewLease.{ViewLease}
use Rattle.fs_view.specs.Gone.{IsUnread, known_with}
use Rattle.fs_view.specs.ViewLease.{is_leaving, number_of, use_of}
use Rattle.fs_view.specs.Script.{script_of}
use Rattle.fs_view.specs.View.{given_by, item_use, known_by, reply_in, value_after_log, walk_in}
use Rattle.fs_view.specs.Walk.{always, walk}
use Rattle.fs_serial.specs.Client.{ClientFits, led_before, times_in}
use Rattle.fs_server.specs.Asks.{kind_for}
use Rattle.fs_server.specs.Leads.{parts_in, uses_of}
use Rattle.fs_serial.specs.Exchange.{ExchangeFits, IsFront, IsToBeLed, ReturnFits, ReturnsFit, due}
use Rattle.fs_serial.specs.Leases.{IsBacked}
use Rattle.fs_serial.specs.Fresh.{TellsLife, made}
use Rattle.fs_serial.specs.Gone.{IsOfGone}
use Rattle.fs_serial.specs.Led.{HomeLives, IsLeadAnswer, LedStands}
use Rattle.fs_serial.specs.Parts.{SessionFits, SessionHolds}
use Rattle.fs_serial.specs.Pending.{AllStand, HasLease, IsCovered, Stands}
use Rattle.fs_serial.specs.Settled.{Lease, Settled, effects_in, lease_in, lease_with, settled_now}
use Rattle.fs_serial.specs.Sight.{Sight}
use Rattle.fs_serial.proofs.Grants.Claims.{NoneAnew, none_anew}
use Rattle.fs_serial.proofs.OtherSessions.Gone.{lost_in, lost_unread}
use Rattle.fs_serial.proofs.ClientMessages.Heard.{quiet_renewed}
use Rattle.fs_serial.proofs.Returns.KeptPairs.{no_pairs}
use Rattle.fs_serial.proofs.Replies.Knowing.{In-filter_map, IsKnown, IsUseOf, all_there, from-filter_map, known_by_lease, use_from, used_there}
use Rattle.fs_serial.proofs.Returns.Lapse.{number_there}
use Rattle.fs_serial.proofs.LedOperations.LedKept.{in_before, one_entry}
use Rattle.fs_serial.proofs.LedOperations.MoveScripts.{AsksOn, IsItemOn, file_led, home_led, items_on, move_on, source_led, use_of_part}
use Rattle.fs_serial.proofs.LedOperations.MovedItems.{AsksHome, home_asked, moved_alike, moved_parts}
use Rattle.fs_serial.proofs.Replies.Reply.{IsOfLease, value_seen}
use Rattle.fs_serial.proofs.Replies.ReplyAll.{not_leaving}
use Rattle.fs_serial.proofs.Replies.ReplyNext.{covers, has_too, of_lease, walked}
use Rattle.fs_serial.proofs.Replies.ReplyPins.{InHand, counted_all, distinct_all, pinned_leases}
use Rattle.fs_serial.proofs.Replies.ReplySession.{pinned_before}
use Rattle.fs_serial.proofs.ClientMessages.SessionStates.{SessionStateHolds, idle_due, seen_at, settled_none}

-- the client as the servers see it leads this
abbrev pub led_as : Led → Settled → Settled
led_as l d = record d { led = Some l }

module _ (skew greatest : ℕ) (s : Sight) (by : Session) (replied : List Item) (c : Client) (up : List ClientMsg) (down : List Answer) (o : Op) (r : Reply) (h : SessionStateHolds skew greatest s by replied c up down)
    (leads : is_led o r ≡ true) (idle : c.exchange ≡ None) (empty : c.log ≡ []) (unled : c.led ≡ None) (known : reply_in c.view c.last o ≡ Some r) (moved : List ℕ × Kind) (tells : moved_known (known_by c.view c.last) o ≡ Some moved) (to : ℕ) where
  abbrev l : Led
  l = led_with o r moved c

  abbrev then : Client
  then = with_lead to l c

  abbrev d : Settled
  d = settled_now c

  none : (up ≡ []) × (due down ≡ [])
  none = idle_due c c.exchange up down idle h.exchange.one

  now : seen_at by c down ≡ d
  now = settled_none by down d none.1

  then_now : settled_now then ≡ led_as l d
  then_now = ap (λ ls. let x : Settled = record { leases = ls; log = c.log; next = c.next; over = c.over; led = Some l } in x) (pinned_leases l.entry.uses c.view.leases)

  seen : seen_at by then down ≡ led_as l d
  seen = settled_none by down (settled_now then) none.1 ∙ then_now

  holds : SessionHolds skew greatest s by replied d
  holds = subst (SessionHolds skew greatest s by replied) now h.holds

  fits : SessionFits skew greatest s by d
  fits = subst (SessionFits skew greatest s by) now h.fits

  -- ## Leases that it uses

  own : (u : Use) → In u l.entry.uses → HasLease d.leases u
  own u i =
      let q : IsUseOf c.view c.last u = use_from c.view c.last o u (ap is_some known) i in
      record {
        lease = lease_with q.kept q.lease;
        held = In-filter_map lease_in q.kept (lease_with q.kept q.lease) c.view.leases q.among (ap (option_map (lease_with q.kept)) q.is);
        number = ap (λ (u : Use). u.no) q.used;
        field = ap (λ (u : Use). u.field) q.used;
        kind = ap (λ (u : Use). u.kind) q.used;
      }

  in_hand : InHand l.entry.uses c.view.leases
  in_hand u i k j e =
      let q : IsUseOf c.view c.last u = use_from c.view c.last o u (ap is_some known) i in
      let same : k ≡ q.kept = h.client.distinct k q.kept j q.among (e ∙ ap (λ (u : Use). u.no) (sym q.used) ∙ sym (number_there q.kept.standing q.lease q.is)) in
      ap (λ (k : ViewLease). is_leaving k.standing) same ∙ not_leaving q.kept.standing q.lease q.is

  backed : (u : Use) → In u l.entry.uses → greatest < u.until + skew → IsBacked s.rows u.no u.until
  backed u i live =
      let q : IsOfLease d.leases u = of_lease by c [] o r known h.client unled u i in
      let b = holds.backed q.lease q.held (subst (λ t. greatest < t + skew) (sym q.until) live) in
      record { row = b.row; stands = b.stands; number = b.number ∙ q.number; lasts = subst (λ t. t ≤ b.row.until) q.until b.lasts }

  -- ## It answers what it will get

  abbrev values : Field → Value
  values = value_of s.records by

  module _ (stand : AllStand s.rows by l.entry.uses) where
    agree : (m : Lease) → In m d.leases → (u : Use) → In u l.entry.uses → m.no ≡ u.no → IsUnread values m.field ⊎ (values m.field ≡ value_seen by d m)
    agree m held u i same =
        let q : Stands s.rows by u = stand u i in
        elim (holds.telling m held q.row q.stands (q.number ∙ sym same)) as (λ _. IsUnread values m.field ⊎ (values m.field ≡ value_seen by d m)) [
          | inl gone ↦ inl (lost_unread s.journal values m.field (lost_in s.records by s.journal m.field gone))
          | inr told ↦ inr (sym told ∙ sym (ap (λ es. value_after_log by m.field m.base (map (effects_in by) es)) empty))
        ]

    is_known : (field : Field) (kind : LeaseKind) → (IsUnread values field → ⊥) → In (need.Lease field kind) (walk_in c.view c.last o).items → known_with values field kind ≡ known_by c.view c.last field kind
    is_known field kind read i = elim (has_too by c [] o r known h.client unled values agree field kind i) as (λ _. known_with values field kind ≡ known_by c.view c.last field kind) [
      | inl gone ↦ absurd (read gone)
      | inr same ↦ same
    ]

    -- nothing of a move is an identifier
    covered : (n : Need) → In n (walk (known_with values) always o).items → IsCovered l.entry.uses n
    covered (need.Lease field kind) i = covers by c [] o r known h.client unled values agree field kind i
    covered (need.Fresh dir) i = absurd (items_on (λ f. Unit {0}) (known_with values) always (script_of o) (move_on (λ f. Unit {0}) (known_with values) o r leads tt tt (λ f e. tt)) (need.Fresh dir) i)

    right : IsLeadAnswer values l
    right = record {
      answer = record { reply = ap (λ w. w.reply) (walked by c [] o r known h.client unled values agree) ∙ known; covered = covered };
      moved = moved_alike (known_by c.view c.last) (known_with values) (given_by c.view c.last) o r moved leads known tells
          (λ dir name i. is_known (Child dir name) Exclusive (λ z. z) i) (λ file kind i. is_known (Life file) kind (λ z. z) i);
    }

  -- ## What it uses is of its parts

  abbrev OnFiles : List ℕ → Type 0
  OnFiles f = In f (led_files o moved.0)

  asks : AsksOn OnFiles (known_by c.view c.last) (script_of o)
  asks =
      let p = moved_parts (known_by c.view c.last) o moved tells in
      move_on OnFiles (known_by c.view c.last) o r leads (source_led o moved.0) (home_led o moved.0)
      (λ f e. let q : Some moved.0 ≡ Some f = sym p.0 ∙ e in let same : moved.0 ≡ f = cc in subst OnFiles same (file_led o moved.0))

  of_parts : (u : Use) → In u l.entry.uses → In u (uses_of (parts_in Plain (lead_of l)))
  of_parts u i =
      let q = from-filter_map (item_use c.view c.last) u (walk_in c.view c.last o).items i in
      use_of_part l u i (at q.0 q.1 q.2 (items_on OnFiles (known_by c.view c.last) (given_by c.view c.last) (script_of o) asks q.0 q.1))
    where
      at : (n : Need) → In n (walk_in c.view c.last o).items → item_use c.view c.last n ≡ Some u → IsItemOn OnFiles n → OnFiles (file_of u.field)
      at (need.Lease field kind) j e on =
          let k : IsKnown c.view c.last field kind = known_by_lease c.view c.last field kind (all_there (known_by c.view c.last) (given_by c.view c.last) (script_of o) (ap is_some known) (need.Lease field kind) j) in
          let same : use_of k.serving.lease ≡ u = cc (k.used, e) in
          subst OnFiles (sym (ap file_of k.serving.on) ∙ ap (λ (x : Use). file_of x.field) same) on.1
      at (need.Fresh dir) j e on = absurd on

  -- ## Its home lives

  -- what it knows of it was told by a lease, which told that a directory lives there
  home : made s.journal (home_of o) ≡ Some Dir
  home =
      let q : AsksHome (known_by c.view c.last) (given_by c.view c.last) o = home_asked (known_by c.view c.last) (given_by c.view c.last) o r leads known in
      let k : IsKnown c.view c.last (Life (home_of o)) Shared = known_by_lease c.view c.last (Life (home_of o)) Shared (all_there (known_by c.view c.last) (given_by c.view c.last) (script_of o) (ap is_some known) (need.Lease (Life (home_of o)) Shared) q.item) in
      let m = lease_with k.kept k.serving.lease in
      let held : In m d.leases = In-filter_map lease_in k.kept m c.view.leases k.among (ap (option_map (lease_with k.kept)) k.serving.is) in
      let seen : known_by c.view c.last (Life (home_of o)) Shared ≡ Some m.base = k.value ∙ ap (λ es. Some (value_after_log c.view.session (Life (home_of o)) k.kept.base es)) (h.client.pending ∙ ap (map (effects_in by)) empty) in
      let t : TellsLife s.journal (home_of o) m.base = fits.lives m held (home_of o) k.serving.on in
      t.dir (q.dir t.life (seen ∙ ap Some t.is))

  lives : HomeLives s.rows s.records by l
  lives =
      let home = home_of o in
      let q : AsksHome (known_by c.view c.last) (given_by c.view c.last) o = home_asked (known_by c.view c.last) (given_by c.view c.last) o r leads known in
      let k : IsKnown c.view c.last (Life home) Shared = known_by_lease c.view c.last (Life home) Shared (all_there (known_by c.view c.last) (given_by c.view c.last) (script_of o) (ap is_some known) (need.Lease (Life home) Shared) q.item) in
      let m = lease_with k.kept k.serving.lease in
      let held : In m d.leases = In-filter_map lease_in k.kept m c.view.leases k.among (ap (option_map (lease_with k.kept)) k.serving.is) in
      let on : m.field ≡ Life home = k.serving.on in
      let kind = kind_of (node_of (get s.records home)) in
      let seen : known_by c.view c.last (Life home) Shared ≡ Some m.base = k.value ∙ ap (λ es. Some (value_after_log c.view.session (Life home) k.kept.base es)) (h.client.pending ∙ ap (map (effects_in by)) empty) in
      record {
        used = use_of k.serving.lease;
        among = used_there c.view c.last o (need.Lease (Life home) Shared) (use_of k.serving.lease) q.item k.used;
        field = on;
        told = λ x i e. elim (holds.telling m held x i e) as (λ _. value_of s.records by k.serving.lease.field ≡ value.Life (Some Dir)) [
          | inl gone ↦ absurd (subst (IsOfGone s.records s.journal) on gone)
          | inr told ↦
              let is : m.base ≡ value.Life kind = told ∙ ap (value_of s.records by) on in
              ap (value_of s.records by) on ∙ ap value.Life (q.dir kind (seen ∙ ap Some is))
        ];
      }

  stands : LedStands skew greatest s by (led_as l d) l
  stands = record {
    leads = leads;
    number = refl;
    empty = empty;
    held = one_entry l.entry own;
    backed = one_entry l.entry backed;
    parts = of_parts;
    home = home;
    lives = lives;
    right = right;
  }

  -- ## Together

  client : ClientFits by then
  client = record {
    session = h.client.session;
    viewed = h.client.viewed;
    pending = h.client.pending;
    distinct = distinct_all l.entry.uses c.view.leases h.client.distinct;
    pinned = λ k i.
        let q = counted_all l.entry.uses c.view.leases (λ n. times_in n c.log) in_hand (λ j i. h.client.pinned j i ∙ ap (λ o. times_in (number_of j.standing) (led_before o c.log)) unled) k i in
        omega arith;
    held = λ x i. elim i as (λ _. (u : Use) → In u x.uses → HasLease (settled_now then).leases u) [
      | inl e ↦ λ u j. subst (λ (x : Settled). HasLease x.leases u) (sym then_now) (own u (subst (λ (y : Entry). In u y.uses) e j))
      | inr i ↦ λ u j. subst (λ (x : Settled). HasLease x.leases u) (sym then_now) (h.client.held x (in_before c.led c.log x i) u j)
    ];
  }

  exchange : ExchangeFits skew greatest s.given s.rows by then (up ++ Lead (lead_of l) ∷ []) down (settled_now then) (seen_at by then down)
  exchange =
      let only : up ++ Lead (lead_of l) ∷ [] ≡ Lead (lead_of l) ∷ [] = ap (λ ms. ms ++ Lead (lead_of l) ∷ []) none.0 in
      subst (λ ms. ExchangeFits skew greatest s.given s.rows by then ms down (settled_now then) (seen_at by then down)) (sym only) (record {
        one = inl (record { message = Lead (lead_of l); asked = refl; question = tt; silent = none.1 });
        ships = tt;
        front = λ entries i. elim i as (λ _. IsFront entries (seen_at by then down)) [ inl e ↦ absurd (cc) | inr z ↦ absurd z ];
        leads = λ m i. elim i as (λ _. IsToBeLed (Some l) m) [
          | inl e ↦ let same : m ≡ lead_of l = cc in record { led = l; is = refl; told = same }
          | inr z ↦ absurd z
        ];
        released = tt;
        kinds = λ xs f i x j. elim i as (λ _. kind_for x.0 x.1 ≡ x.1) [ inl e ↦ absurd (cc) | inr z ↦ absurd z ];
        pairs = no_pairs s.given s.rows (Lead (lead_of l)) refl;
        returns = returns;
        renewals = λ ends e i. absurd (quiet_renewed down none.1 ends e i);
      })
    where
      returns : ReturnsFit s.given s.rows by then.view.leases (seen_at by then down).leases
      returns k i t =
          let q = pinned_before l.entry.uses c.view.leases k i in
          let r : ReturnFits s.given s.rows by (seen_at by c down).leases (pair_of k) = subst (ReturnFits s.given s.rows by (seen_at by c down).leases) q.2 (h.exchange.returns q.0 q.1 (q.3 ∙ t)) in
          subst (λ (x : Settled). ReturnFits s.given s.rows by x.leases (pair_of k)) (sym seen) (subst (λ (x : Settled). ReturnFits s.given s.rows by x.leases (pair_of k)) now r)

  pub session_leads : SessionStateHolds skew greatest s by replied then (up ++ Lead (lead_of l) ∷ []) down
  session_leads = record {
    holds = subst (SessionHolds skew greatest s by replied) (sym seen) (record { backed = holds.backed; telling = holds.telling; pending = holds.pending; numbers = holds.numbers; replies = holds.replies });
    fits = subst (SessionFits skew greatest s by) (sym seen) (record { given = fits.given; distinct = fits.distinct; matching = fits.matching; fresh = fits.fresh; lives = fits.lives; held = fits.held; backed = fits.backed; entries = fits.entries; once = fits.once; refused = fits.refused; led = stands });
    client = client;
    exchange = exchange;
  }

  -- no lease is new in what is seen
  pub leads_reserves : NoneAnew (seen_at by c down) (seen_at by then down)
  leads_reserves = subst (NoneAnew (seen_at by c down)) (sym seen) (subst (λ (x : Settled). NoneAnew x (led_as l d)) (sym now) (none_anew d))
