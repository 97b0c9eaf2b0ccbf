-- A turn of the server: sessions that let go of the lease on their handles lose these, or a lease in the way is asked back.
use Rattle.std.proofs.Common.{◌≡◌, ℕ, ◌+◌, not, true, false, List, [], ◌∷◌, ◌++◌, map, refl, sym, ap, ◌∙◌, subst, cond, append_assoc, append-nil, inl, inr, arith}
use Rattle.std.specs.Prelude.{None}
use Rattle.std.specs.List.{filter}
use Rattle.std.specs.FinMap.{get, keys}
use Rattle.fs_ident.specs.In.{In}
use Rattle.fs_ident.specs.declared.actor.LeaseNo.{LeaseNo}
use Rattle.fs_ident.specs.declared.actor.Session.{Session}
use Rattle.fs_ident.proofs.Standing.{In-append, In-map, In-mapped}
use Rattle.fs_field.specs.declared.effect.Effect.TheVariants.{RemoveHandle}
use Rattle.fs_field.specs.declared.row.Row.{Row}
use Rattle.fs_modes.specs.declared.modes.Modes.{Modes}
use Rattle.fs_moderows.specs.Answer.{reap_blocker}
use Rattle.fs_msg.specs.declared.item.Item.{Item}
use Rattle.fs_record.specs.Applied.{records_after_all}
use Rattle.fs_record.specs.Effects.{reap_effects}
use Rattle.fs_record.specs.Records.{node_of}
use Rattle.fs_record.specs.ValueOf.{handles_of, own_of, selves_in}
use Rattle.fs_server.specs.Reaps.{Reaping, has_own, lapsed_among, lapsed_in, lapsed_on, reap_from, reap_item, recalls_for, turn_over, turn_step, with_reap}
use Rattle.fs_server.specs.Server.{Stepped}
use Rattle.fs_server.specs.declared.state.Server.{Server}
use Rattle.fs_server.proofs.OneByOne.{Lapsed, each_lapsed, reaps_leave}
use Rattle.fs_txn.specs.Decided.{IsApart, held_with}
use Rattle.fs_txn.specs.Grants.{Decided, effects_in}
use Rattle.fs_serial.specs.Decided.{AllDecidedStand, DecidedFits, WorldStands}
use Rattle.fs_serial.specs.Fresh.{reserved_by}
use Rattle.fs_serial.specs.Settled.{Settled}
use Rattle.fs_serial.specs.Sight.{Counts, Sight, seen, sight_beside, sight_of, sight_with}
use Rattle.fs_serial.proofs.DecidedEffects.AdmitPast.{inside_apart}
use Rattle.fs_serial.specs.World.{Ends, GoesOn, World, WorldHolds, settled_at, with_sent}
use Rattle.fs_serial.proofs.Lists.Counting.{given_by}
use Rattle.fs_serial.proofs.OneServer.LeaseChanges.{carried_still, goes_restored}
use Rattle.fs_serial.proofs.OtherSessions.Gone.{made_more}
use Rattle.fs_serial.proofs.DecidedEffects.FewerDirectories.{fewer_then, reserved_later, reserved_there}
use Rattle.fs_serial.proofs.DecidedEffects.GrantsPast.{handles_alike, selves_alike, unused}
use Rattle.fs_serial.proofs.OtherSessions.Older.{IsLater, later_itself}
use Rattle.fs_serial.proofs.DecidedEffects.Owing.{fits_then, sent_owed}
use Rattle.fs_serial.proofs.Returns.Reaping.{reap_births, reap_keeps, reap_makes, reap_relied}
use Rattle.fs_serial.proofs.OtherSessions.Relied.{relies_for}
use Rattle.fs_serial.proofs.ClientMessages.Sending.{goes_of, recall_each, world_all_recalled, world_still}
use Rattle.fs_serial.proofs.DecidedEffects.StandPast.{AllApart, held_past, stand_past}
use Rattle.fs_serial.proofs.DecidedEffects.StoredBeside.{goes_seen}
use Rattle.fs_serial.proofs.DecidedEffects.Underway.{effect_of}

-- ## Who let go

-- each of these sessions has no row on its handles on the file beside it
abbrev pub HaveLetGo : List Row → List (List ℕ × Session) → Type 0
HaveLetGo rows xs = (x : List ℕ × Session) → In x xs → has_own rows x.0 x.1 ≡ false

gone_of : (rows : List Row) (file : List ℕ) (es : List (Session × Modes)) → HaveLetGo rows (map (λ (e : Session × Modes). (file, e.0)) (filter (λ (e : Session × Modes). not (has_own rows file e.0)) es))
gone_of rows file [] x i = absurd i
gone_of rows file (e ∷ es) x i =
    let rest : List (Session × Modes) = filter (λ (e : Session × Modes). not (has_own rows file e.0)) es in
    elim (has_own rows file e.0) as (λ b. has_own rows file e.0 ≡ b → In x (map (λ (e : Session × Modes). (file, e.0)) (cond (not b) (e ∷ rest) rest)) → has_own rows x.0 x.1 ≡ false) [
      | true ↦ λ t j. gone_of rows file es x j
      | false ↦ λ t j. elim j as (λ _. has_own rows x.0 x.1 ≡ false) [ inl q ↦ ap (λ (p : List ℕ × Session). has_own rows p.0 p.1) q ∙ t | inr k ↦ gone_of rows file es x k ]
    ] refl i

gone_among : (s : Server) (files : List (List ℕ)) → HaveLetGo s.rows (lapsed_among s files)
gone_among s [] x i = absurd i
gone_among s (f ∷ fs) x i = elim (In-append x (lapsed_on s f) (lapsed_among s fs) i) as (λ _. has_own s.rows x.0 x.1 ≡ false) [ inl j ↦ gone_of s.rows f (selves_in s.records f) x j | inr j ↦ gone_among s fs x j ]

-- ## One reap

-- all that holds while the server takes its steps
pub goes_reaped : (o : Counts) (skew greatest : ℕ) (s : Server) (journal : List Item) (replied : Session → List Item) (ends : Session → Ends) (clients : Session → Settled) (file : List ℕ) (by : Session) → has_own s.rows file by ≡ false → reap_blocker (selves_in s.records file) s.rows by file ≡ None
    → GoesOn skew greatest (sight_of o s journal) replied ends clients → GoesOn skew greatest (sight_of o (with_reap file by s) (journal ++ reap_item s.me (s.reaps + 1) file by ∷ [])) replied ends clients
goes_reaped o skew greatest s journal replied ends clients file by gone free h =
    let after : Sight = sight_of o (with_reap file by s) (journal ++ reap_item s.me (s.reaps + 1) file by ∷ []) in
    record {
      all = reap_keeps o skew greatest s journal replied clients file by h.all gone free;
      carried = carried_still skew greatest (sight_of o s journal) after ends clients
          (λ x. relies_for skew greatest x (sight_of o s journal) after (clients x).leases (h.all.fitting x).matching (reap_relied o skew greatest s journal file by h.all.servers h.all.kept gone free x)) h.all.fitting h.carried;
    }

-- ## All of them

-- the handles that are taken away go past what is decided: a file that goes has none
reap_apart : (ds : List Decided) (s : Server) (journal : List Item) (file : List ℕ) (by : Session) → AllDecidedStand ds s journal → AllApart ds (reap_effects s.records file by)
reap_apart ds s journal file by under d i e j =
    let q = In-map (λ (h : ℕ × Modes). RemoveHandle file by h.0) e (own_of by (handles_of (node_of (get s.records file)))) j in
    let decided = (under.stand d i).decided in
    subst (IsApart d.effect) (sym q.1.1) (inside_apart d.effect (RemoveHandle file by (q.0).0) decided tt (λ g.
    let none = unused ds s journal under file (subst (λ x. In x (effects_in ds)) g (In-mapped effect_of d ds i)) in
    subst (λ hs. In q.0 (own_of by hs)) none q.1.0))

module _ (o : Counts) (skew greatest : ℕ) (journal : List Item) (replied : Session → List Item) (ends : Session → Ends) (clients : Session → Settled) (ds : List Decided) where
  -- what goes on
  abbrev pub Reaps : Server → List Item → Type 0
  Reaps s admitted = AllDecidedStand ds s (journal ++ admitted) × GoesOn skew greatest (sight_with o ds s (journal ++ admitted)) replied ends clients

  one_reaped : (s : Server) (admitted : List Item) (file : List ℕ) (by : Session) → has_own s.rows file by ≡ false → reap_blocker (selves_in s.records file) s.rows by file ≡ None → Reaps s admitted → Reaps (with_reap file by s) (admitted ++ reap_item s.me (s.reaps + 1) file by ∷ [])
  one_reaped s admitted file by gone free h =
      let now = journal ++ admitted in
      let item = reap_item s.me (s.reaps + 1) file by in
      let there = seen ds s in
      let effects = reap_effects s.records file by in
      let apart = reap_apart ds s now file by h.0 in
      let past = stand_past ds s now h.0 effects apart (now ++ item ∷ []) (λ id was. made_more now item id was) in
      let same : records_after_all there.records (reap_effects there.records file by) ≡ held_with (effects_in ds) (records_after_all s.records effects) =
      ap (λ hs. records_after_all there.records (map (λ (x : ℕ × Modes). RemoveHandle file by x.0) (own_of by hs))) (handles_alike ds s now h.0 file) ∙ sym (held_past ds s now h.0 effects apart) in
      let stored = (with_reap file by s).records in
      let joined = goes_seen ds s now h.0 o skew greatest replied clients ends h.1 in
      let reserved = reserved_later (reserved_by clients) stored now (now ++ item ∷ []) (reap_makes now s.me (s.reaps + 1) file by)
      (reserved_there (reserved_by clients) s.records stored now (fewer_then s.records effects (reap_births s.records file by)) h.1.all.reserved) in
      let goes = goes_restored skew greatest (sight_of o (with_reap file by there) (now ++ item ∷ [])) stored replied ends clients reserved
      (goes_reaped o skew greatest there now replied ends clients file by gone (ap (λ v. reap_blocker v s.rows by file) (selves_alike ds s now h.0 file) ∙ free) joined) in (
        subst (AllDecidedStand ds (with_reap file by s)) (append_assoc journal admitted (item ∷ [])) (record { records = past.records; stand = past.stand }),
        subst (λ js. GoesOn skew greatest (sight_with o ds (with_reap file by s) js) replied ends clients) (append_assoc journal admitted (item ∷ []))
            (subst (λ m. GoesOn skew greatest (sight_beside stored o (record s { reaps = s.reaps + 1; records = m }) (now ++ item ∷ [])) replied ends clients) same goes),
      )

  pub goes_all : (xs : Lapsed) (s : Server) (admitted : List Item) (blockers : List LeaseNo) → HaveLetGo s.rows xs → Reaps s admitted → Reaps (reap_from xs s admitted blockers).server (reap_from xs s admitted blockers).admitted
  goes_all = each_lapsed (λ xs s admitted blockers r. HaveLetGo s.rows xs → Reaps s admitted → Reaps r.server r.admitted)
      (λ s admitted blockers gone h. h)
      (λ f x xs s admitted blockers r free p gone h. p (λ y i. gone y (inr i)) (one_reaped s admitted f x (gone (f, x) (inl refl)) free h))
      (λ f x xs s admitted blockers r number held p gone h. p (λ y i. gone y (inr i)) h)

-- no row is new
pub later_reaped : (o : Counts) (s t : Server) → t ≡ record s { reaps = t.reaps; records = t.records } → IsLater (given_by o s) (given_by o t) s.rows t.rows
later_reaped o s t q = subst (λ t. IsLater (given_by o s) (given_by o t) s.rows t.rows) (sym q) (later_itself (given_by o s) s.rows)

-- ## The turn

-- the world after a step of its server that takes no question
abbrev pub world_stepped : World → Stepped → World
world_stepped w st = record { server = st.server; counts = w.counts; decided = w.decided; journal = w.journal ++ st.out.admitted; replied = w.replied; ends = with_sent st.out.send w.ends }

-- those of them that may
pub turn_some_keeps : (greatest : ℕ) (w : World) (xs : List (List ℕ × Session)) → DecidedFits w → HaveLetGo w.server.rows xs → WorldHolds greatest w → WorldStands greatest (world_stepped w (turn_over xs w.server))
turn_some_keeps greatest w [] f gone h = subst (λ js. WorldStands greatest (record { server = w.server; counts = w.counts; decided = w.decided; journal = js; replied = w.replied; ends = w.ends })) (sym (append-nil w.journal)) (h, f)
turn_some_keeps greatest w (x ∷ xs) f gone h =
    let r : Reaping = reap_from (x ∷ xs) w.server [] [] in
    let same : r.server ≡ record (w.server) { reaps = r.server.reaps; records = r.server.records } = reaps_leave (x ∷ xs) w.server [] [] in
    let clients : Session → Settled = λ y. settled_at y (w.ends y) in
    let clock = h.clock in
    let last = ap (λ t. t.last) same in
    let start : Reaps w.counts w.server.skew greatest w.journal w.replied w.ends clients w.decided w.server [] =
    subst (λ js. AllDecidedStand w.decided w.server js × GoesOn w.server.skew greatest (sight_with w.counts w.decided w.server js) w.replied w.ends clients) (sym (append-nil w.journal)) (f.all, goes_of greatest w h) in
    let q = goes_all w.counts w.server.skew greatest w.journal w.replied w.ends clients w.decided (x ∷ xs) w.server [] [] gone start in (
      world_all_recalled greatest (record { server = r.server; counts = w.counts; decided = w.decided; journal = w.journal ++ r.admitted; replied = w.replied; ends = w.ends }) (recalls_for r.server.rows r.blockers) (recall_each r.server.rows r.blockers)
          (world_still greatest w r.server (w.journal ++ r.admitted) (ap (λ t. t.skew) same) (omega arith) (later_reaped w.counts w.server r.server same) q.1 h),
      fits_then w r.server (w.journal ++ r.admitted) w.replied (with_sent (recalls_for r.server.rows r.blockers) w.ends) q.0 (sent_owed (recalls_for r.server.rows r.blockers) w.ends) f,
    )

pub turn_keeps : (greatest : ℕ) (w : World) → DecidedFits w → WorldHolds greatest w → WorldStands greatest (world_stepped w (turn_step w.server))
turn_keeps greatest w f h = turn_some_keeps greatest w (lapsed_in w.server) f (gone_among w.server (keys w.server.records)) h
