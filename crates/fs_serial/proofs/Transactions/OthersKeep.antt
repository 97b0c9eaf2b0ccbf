-- Every other kind of step keeps all that holds of transactions: a server's that leaves its tables, words and locks, and a client's.
use Rattle.std.proofs.Common.{◌≡◌, ◌==◌, ◌++◌, ℕ, Bool, true, false, List, [], ◌∷◌, refl, sym, ap, ◌∙◌, subst, cond, inl, inr, map, append-nil}
use Rattle.std.specs.Prelude.{Some, slice_get}
use Rattle.std.specs.List.{find, flat_map}
use Rattle.fs_ident.specs.In.{In}
use Rattle.fs_ident.specs.declared.actor.Peer.{Peer}
use Rattle.fs_ident.specs.declared.actor.Peer.TheVariants.{Client as OfSession}
use Rattle.fs_ident.specs.declared.actor.Session.{Session}
use Rattle.fs_ident.specs.declared.actor.TxnNo.{TxnNo}
use Rattle.fs_ident.proofs.Same.{one_session}
use Rattle.fs_ident.proofs.Standing.{In-got}
use Rattle.fs_field.specs.declared.effect.Effect.{Effect}
use Rattle.fs_field.specs.declared.effect.Effect.TheVariants as effect
use Rattle.fs_field.specs.declared.field.Field.{Field}
use Rattle.fs_field.specs.declared.field.Field.TheVariants.{Child}
use Rattle.fs_field.specs.declared.lease_kind.LeaseKind.{LeaseKind}
use Rattle.fs_field.specs.declared.lease_kind.LeaseKind.TheVariants.{Exclusive}
use Rattle.fs_field.specs.declared.row.Row.{Row}
use Rattle.fs_msg.specs.declared.answer.Answer.{Answer}
use Rattle.fs_msg.specs.declared.item.Item.{Item}
use Rattle.fs_msg.specs.declared.msg.Msg.{Msg}
use Rattle.fs_msg.specs.declared.msg.Msg.TheVariants as msg
use Rattle.fs_client.specs.Acts.{act_plan}
use Rattle.fs_client.specs.Answers.{answer_plan}
use Rattle.fs_client.specs.Turns.{turn_plan}
use Rattle.fs_client.specs.declared.led.Led.{Led}
use Rattle.fs_client.specs.declared.plan.Plan.{Plan}
use Rattle.fs_client.specs.declared.state.Client.{Client}
use Rattle.fs_server.specs.Server.{Stepped}
use Rattle.fs_server.specs.declared.event.ServerEvent.{ServerEvent}
use Rattle.fs_server.specs.declared.event.ServerEvent.TheVariants as event
use Rattle.fs_server.specs.declared.state.Server.{Server}
use Rattle.fs_txn.specs.Guards.{is_enough}
use Rattle.fs_txn.specs.Leading.{kept_by, said_by}
use Rattle.fs_txn.specs.Locks.{IsLocked, LocksHold}
use Rattle.fs_txn.specs.Ready.{agreed_of, is_part}
use Rattle.fs_txn.specs.Stages.{Key, StagesHold, Wanted}
use Rattle.fs_txn.specs.declared.leading.Ending.{Ending}
use Rattle.fs_txn.specs.declared.leading.Leading.{Leading}
use Rattle.fs_txn.proofs.Locked.{others_keep}
use Rattle.fs_serial.specs.Cluster.{Cluster, ClientEvent, Lines, after_client, after_plan, after_step, in_flight_from, is_with, with_answer, with_lines, with_sent, without_arrived, without_first, without_question}
use Rattle.fs_serial.specs.Cluster.ClientEvent.{Does, Turns, Hears}
use Rattle.fs_serial.specs.Leading.{HasLockFor, IsEnded, IsLeading, IsLedBy, IsPlaced, IsToldOf, LeadsFor, LeavesLed, LeavesLedClient, LedHolds}
use Rattle.fs_serial.specs.Words.{desks_of, kept_at, rows_at, said_at, stage_of_key, telling_of}
use Rattle.fs_serial.proofs.Transactions.Desks.{each_after, ended_still, files_still, is_at, is_still, leading_still, prepared_set, stage_set, stand_alike, telling_append, was_at}

-- ## Lines of sessions

pub sent_client : (k : ℕ) (ms : List (Peer × Msg)) (lines : Session → Lines) (y : Session)
    → (with_sent k ms lines y).client ≡ (lines y).client
sent_client k [] lines y = refl
sent_client k ((OfSession to, msg.Answer a) ∷ rest) lines y = sent_client k rest (with_answer k to a lines) y ∙ by (to.0 == y.0)
  where
    by : (b : Bool) → (let l : Lines = cond b (record (lines y) { down = (lines y).down ++ (k, a) ∷ [] }) (lines y) in l).client ≡
        (lines y).client
    by true = refl
    by false = refl
sent_client k (m ∷ rest) lines y = sent_client k rest lines y

pub taken_client : (k : ℕ) (e : ServerEvent) (lines : Session → Lines) (y : Session) → (without_question k e lines y).client ≡ (lines y).client
taken_client k (event.FromClient by m) lines y =
    let l : Lines = record (lines by) { up = without_first (is_with k) (lines by).up } in
    elim (by.0 == y.0) as (λ b. (by.0 == y.0) ≡ b → (cond b l (lines y)).client ≡ (lines y).client) [
      | true ↦ λ t. ap (λ z. (lines z).client) (one_session by y t)
      | false ↦ λ t. refl
    ] refl
taken_client k e lines y = refl

pub waits_alike : (lines later : Session → Lines) (by : Session) (n : ℕ) (l : Led) → (later by).client ≡ (lines by).client
    → IsLedBy lines by n l → IsLedBy later by n l
waits_alike lines later by n l e h =
    record { led = ap (λ (x : Client). x.led) e ∙ h.led; asked = ap (λ (x : Client). x.exchange) e ∙ h.asked }

-- a server's step changes no client
pub step_waits : (k : ℕ) (e : ServerEvent) (x : Stepped) (c : Cluster) (by : Session) → LeavesLedClient by c (after_step k e x c).lines
step_waits k e x c by n l h leads =
    waits_alike c.lines (after_step k e x c).lines by n l
    (sent_client k x.out.send (without_question k e c.lines) by ∙ taken_client k e c.lines by) h

-- ## A transaction whose session waits still

pub leading_waits : (lines later : Session → Lines) (s : Server) (parts : Key → Wanted) (l : Leading)
    → ((d : Led) → IsLedBy lines l.leader.session s.me d → IsLedBy later l.leader.session s.me d)
    → IsLeading lines s parts l → IsLeading later s parts l
leading_waits lines later s parts l w q = record {
  own = q.own;
  begun = q.begun;
  one = q.one;
  only = q.only;
  votes = q.votes;
  asked = q.asked;
  home = q.home;
  wanted = q.wanted;
  led = q.led;
  client = w q.led q.client;
  leader = q.leader;
  plain = q.plain;
}

pub ended_waits : (lines later : Session → Lines) (s : Server) (parts : Key → Wanted) (x : Ending)
    → ((d : Led) → IsLedBy lines x.session s.me d → IsLedBy later x.session s.me d)
    → IsEnded lines s parts x → IsEnded later s parts x
ended_waits lines later s parts x w q = record {
  own = q.own;
  begun = q.begun;
  one = q.one;
  only = q.only;
  waits = q.waits;
  awaited = q.awaited;
  led = q.led;
  client = w q.led q.client;
  fits = q.fits;
}

-- ## What parts were told

abbrev pub LocksStay : TxnNo → List Row → List Row → Type 0
LocksStay txn rows new = (r : Row) → In r rows → r.lock ≡ Some txn → IsLocked new txn r.session r.no r.field r.kind

lock_stays : (rows new : List Row) (txn : TxnNo) (by : Session) (on : Field) (wanted : LeaseKind) → LocksStay txn rows new
    → HasLockFor rows txn by on wanted → HasLockFor new txn by on wanted
lock_stays rows new txn by on wanted stays h =
    let q = stays h.row h.stands h.lock in
    record {
      row = q.has.row;
      stands = q.has.stands;
      session = q.has.session ∙ h.session;
      field = q.has.field ∙ h.field;
      enough = ap (is_enough wanted) q.has.kind ∙ h.enough;
      lock = q.lock;
    }

placed_stays : (rows new : List Row) (txn : TxnNo) (by : Session) (e : Effect) → LocksStay txn rows new → IsPlaced rows txn by e
    → IsPlaced new txn by e
placed_stays rows new txn by (effect.SetParent file dir name) stays h = lock_stays rows new txn by (Child dir name) Exclusive stays h
placed_stays rows new txn by (effect.SetChild dir name to) stays h = tt
placed_stays rows new txn by (effect.NewNode f x y z) stays h = tt
placed_stays rows new txn by (effect.RemoveNode f) stays h = tt
placed_stays rows new txn by (effect.AddHandle f x y z) stays h = tt
placed_stays rows new txn by (effect.RemoveHandle f x y) stays h = tt
placed_stays rows new txn by (effect.SetInfo f x y) stays h = tt

-- ## A server's step

module _ (k : ℕ) (e : ServerEvent) (s : Server) (x : Stepped) (c : Cluster) (at : slice_get c.servers k ≡ Some s) (held : LedHolds c)
    (leaves : LeavesLed k e s x c) where
  abbrev after : Cluster
  after = after_step k e x c

  abbrev t : Server
  t = x.server

  here : In s c.servers
  here = In-got c.servers k s at

  telling_still : telling_of after.in_flight ≡ telling_of c.in_flight
  telling_still =
      telling_append (without_arrived k e c.in_flight) (in_flight_from k x.out.send)
      ∙ ap (λ ws. telling_of (without_arrived k e c.in_flight) ++ ws) leaves.words
      ∙ append-nil (telling_of (without_arrived k e c.in_flight))
      ∙ leaves.taken

  stage_still : (key : Key) → stage_of_key after.servers key ≡ stage_of_key c.servers key
  stage_still key = stage_set c.servers k s t at leaves.leading leaves.ending key

  stages_still : StagesHold (desks_of held.parts after)
  stages_still = stand_alike (desks_of held.parts c) (desks_of held.parts after) (record {
    parts = λ key. refl;
    stages = stage_still;
    prepared = prepared_set c.servers k s t at leaves.prepared;
    telling = telling_still;
  }) held.stages

  leading_here : (l : Leading) → In l t.leading → IsLeading c.lines t held.parts l
  leading_here l i = leading_still c.lines s t held.parts leaves.me leaves.txns leaves.leading leaves.ending l
      (held.leading s here l (subst (In l) leaves.leading i))

  ending_here : (z : Ending) → In z t.ending → IsEnded c.lines t held.parts z
  ending_here z i = ended_still c.lines s t held.parts leaves.me leaves.txns leaves.leading leaves.ending z
      (held.ending s here z (subst (In z) leaves.ending i))

  locks_here : LocksHold t.rows (said_at t) (kept_at t)
  locks_here =
      let held_then : LocksHold t.rows (said_at s) (kept_at s) =
      others_keep s.rows t.rows (said_at s) (kept_at s) (held.locks s here) leaves.locks in
      subst (λ xs. LocksHold t.rows (said_at t) (kept_by xs)) (sym leaves.ending)
      (subst (λ me. LocksHold t.rows (map agreed_of t.prepared ++ flat_map (said_by me) t.leading) (kept_at s)) (sym leaves.me)
      (subst (λ xs. LocksHold t.rows (map agreed_of t.prepared ++ flat_map (said_by s.me) xs) (kept_at s)) (sym leaves.leading)
      (subst (λ xs. LocksHold t.rows (map agreed_of xs ++ flat_map (said_by s.me) s.leading) (kept_at s)) (sym leaves.prepared) held_then)))

  told_still : (key : Key) (w : Wanted) (d : Effect) → IsToldOf c.servers key w d → IsToldOf after.servers key w d
  told_still key w d h = record {
    decided = h.decided;
    file = h.file;
    covered = h.covered;
    placed = elim (key.txn.server == k) as
        (λ b. (key.txn.server == k) ≡ b → IsPlaced (rows_at (slice_get after.servers key.txn.server)) key.txn w.session d) [
          | true ↦ λ q. subst (λ o. IsPlaced (rows_at o) key.txn w.session d) (sym (is_at c.servers k s t at key.txn.server q))
              (placed_stays s.rows t.rows key.txn w.session d (λ r i l. leaves.locks.stays r i key.txn l)
              (subst (λ o. IsPlaced (rows_at o) key.txn w.session d) (was_at c.servers k s t at key.txn.server q) h.placed))
          | false ↦ λ q. subst (λ o. IsPlaced (rows_at o) key.txn w.session d) (sym (is_still c.servers k s t at key.txn.server q)) h.placed
        ] refl;
  }

  client_still : (by : Session) → (after.lines by).client ≡ (c.lines by).client
  client_still by = sent_client k x.out.send (without_question k e c.lines) by ∙ taken_client k e c.lines by

  pub step_keeps_led : LedHolds after
  step_keeps_led = record {
    parts = held.parts;
    stages = stages_still;
    leading = λ z i l j. leading_waits c.lines after.lines z held.parts l
        (λ d h. waits_alike c.lines after.lines l.leader.session z.me d (client_still l.leader.session) h)
        (each_after (λ a. In l a.leading → IsLeading c.lines a held.parts l) c.servers k t (λ a p q. held.leading a p l q)
        (leading_here l) z i j);
    ending = λ z i y j. ended_waits c.lines after.lines z held.parts y
        (λ d h. waits_alike c.lines after.lines y.session z.me d (client_still y.session) h)
        (each_after (λ a. In y a.ending → IsEnded c.lines a held.parts y) c.servers k t (λ a p q. held.ending a p y q)
        (ending_here y) z i j);
    ready = λ z i r j. each_after (λ a. In r a.prepared → find (is_part r.txn r.number) a.prepared ≡ Some r) c.servers k t
        (λ a p q. held.ready a p r q)
        (λ q. ap (find (is_part r.txn r.number)) leaves.prepared ∙ held.ready s here r (subst (In r) leaves.prepared q)) z i j;
    locks = λ z i. each_after (λ a. LocksHold a.rows (said_at a) (kept_at a)) c.servers k t held.locks locks_here z i;
    files = files_still held.parts (stage_of_key c.servers) (stage_of_key after.servers) (λ key n u. n (stage_still key ∙ u)) held.files;
    few = λ key to effects i. held.few key to effects (subst (In _) telling_still i);
    told = λ key to effects i d j. told_still key (held.parts key) d (held.told key to effects (subst (In _) telling_still i) d j);
  }

-- ## A client's event

module _ (by : Session) (c : Cluster) (held : LedHolds c) (journal : List Item) (replied : Session → List Item) (own : Lines) where
  abbrev later : Session → Lines
  later = with_lines by own c.lines

  abbrev then : Cluster
  then = record { servers = c.servers; in_flight = c.in_flight; journal = journal; replied = replied; lines = later }

  module _ (leaves : LeavesLedClient by c later) where
    -- the other sessions' lines stay
    waits_then : (y : Session) → LeavesLedClient y c later
    waits_then y n d h leads = of (by.0 == y.0) refl
      where
        of : (b : Bool) → (by.0 == y.0) ≡ b → IsLedBy later y n d
        of true t =
            let same : by ≡ y = one_session by y t in
            subst (λ z. IsLedBy later z n d) same
            (leaves n d (subst (λ z. IsLedBy c.lines z n d) (sym same) h)
            (subst (λ z. (s : Server) × (In s c.servers × LeadsFor s z)) (sym same) leads))
        of false t = waits_alike c.lines later y n d (ap (λ b. (let l : Lines = cond b own (c.lines y) in l).client) t) h

    pub lines_keep_led : LedHolds then
    lines_keep_led = record {
      parts = held.parts;
      stages = held.stages;
      leading = λ s i l j. leading_waits c.lines later s held.parts l
          (λ d h. waits_then l.leader.session s.me d h (s, (i, inl (l, (j, refl))))) (held.leading s i l j);
      ending = λ s i x j. ended_waits c.lines later s held.parts x (λ d h. waits_then x.session s.me d h (s, (i, inr (x, (j, refl)))))
          (held.ending s i x j);
      ready = held.ready;
      locks = held.locks;
      files = held.files;
      few = held.few;
      told = held.told;
    }

pub plan_keeps_led : {N : Type 0} (by : Session) (rest : List (ℕ × Answer)) (p : Plan N) (c : Cluster) → LedHolds c
    → LeavesLedClient by c (after_plan by rest p c).lines → LedHolds (after_plan by rest p c)
plan_keeps_led by rest p c held leaves = lines_keep_led by c held (after_plan by rest p c).journal (after_plan by rest p c).replied _ leaves

pub client_keeps_led : (by : Session) (now : ℕ) (e : ClientEvent) (c : Cluster) → LedHolds c
    → LeavesLedClient by c (after_client by now e c).lines → LedHolds (after_client by now e c)
client_keeps_led by now (Does o) c held leaves = plan_keeps_led by (c.lines by).down (act_plan (c.lines by).client now o) c held leaves
client_keeps_led by now Turns c held leaves = plan_keeps_led by (c.lines by).down (turn_plan (c.lines by).client now) c held leaves
client_keeps_led by now (Hears from a) c held leaves =
    plan_keeps_led by (without_first (is_with from) (c.lines by).down) (answer_plan (c.lines by).client now from a) c held leaves
