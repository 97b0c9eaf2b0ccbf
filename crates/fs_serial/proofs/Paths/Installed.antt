-- A server that takes a parcel: all that is told of paths goes on to hold. What its paths rest on goes on at another server, which has the
-- record of the next file, so none of its runs grows.
use Rattle.std.proofs.Common.{◌≡◌, ◌∙◌, ℕ, Bool, true, false, List, [], ◌∷◌, refl, sym, ap, subst, cond, inl, inr, append-nil, arith}
use Rattle.std.specs.Prelude.{Option, Some, is_some, slice_get}
use Rattle.std.specs.FinMap.{get}
use Rattle.fs_ident.specs.In.{In}
use Rattle.fs_ident.proofs.Standing.{In-got}
use Rattle.fs_msg.specs.declared.peer_msg.PeerMsg.TheVariants.{Parcel as OfParcel}
use Rattle.fs_msg.specs.declared.server_note.ServerNote.TheVariants as note
use Rattle.fs_path.specs.Leases.{PathLease}
use Rattle.fs_record.specs.declared.parcel.Parcel.{Parcel}
use Rattle.fs_record.specs.declared.record.Record.{Record}
use Rattle.fs_server.specs.Moves.{installed}
use Rattle.fs_server.specs.Server.{Stepped, only_noted}
use Rattle.fs_server.specs.declared.event.ServerEvent.{ServerEvent}
use Rattle.fs_server.specs.declared.event.ServerEvent.TheVariants.{FromPeer}
use Rattle.fs_server.specs.declared.state.Server.{Server}
use Rattle.fs_serial.specs.Cluster.{Cluster, InFlight, IsThere, after_step, is_between, parcels_of}
use Rattle.fs_serial.specs.Paths.{Avoids, HoldsPath, IsSupported, IsTruePath, PathsHold, has_record, rests_from, run_up, upwards}
use Rattle.fs_serial.specs.Places.{PlacesHold, gives_it}
use Rattle.fs_serial.specs.Runs.{held_by}
use Rattle.fs_serial.proofs.Lists.Journals.{there_is}
use Rattle.fs_serial.proofs.Moves.Arriving.{arriving_keeps}
use Rattle.fs_serial.proofs.Moves.ComingParts.{came_parts}
use Rattle.fs_serial.proofs.Moves.Parcels.{taken_there}
use Rattle.fs_serial.proofs.Moves.Parted.{ArePartsOf}
use Rattle.fs_serial.proofs.Places.OnePlaces.{not_both, record_sent}
use Rattle.fs_serial.proofs.Paths.Alike.{held_still}
use Rattle.fs_serial.proofs.Paths.Counting.{on_way_without}
use Rattle.fs_serial.proofs.Paths.Denied.{asks_on}
use Rattle.fs_serial.proofs.Paths.SameSpace.{same_space_true}
use Rattle.fs_serial.proofs.Paths.Taken.{held_given}
use Rattle.fs_serial.proofs.Paths.Tokens.{TokensKept, nothing_made, tokens_of}
use Rattle.fs_serial.proofs.Paths.Truth.{AllTrue}

module _ (c : Cluster) (k from : ℕ) (s : Server) (p : Parcel) (places : PlacesHold c) (h : PathsHold c) (at : slice_get c.servers k ≡ Some s)
    (there : IsThere k (FromPeer from (OfParcel p)) c) where
  abbrev it : InFlight
  it = record { from = from; to = k; message = OfParcel p }

  abbrev t : Server
  t = installed p s

  abbrev x : Stepped
  x = only_noted (note.Installs p.prefix) t

  abbrev e : ServerEvent
  e = FromPeer from (OfParcel p)

  abbrev later : Cluster
  later = after_step k e x c

  here : In s c.servers
  here = In-got c.servers k s at

  flies : In p (parcels_of c.in_flight)
  flies = taken_there (is_between from k) c.in_flight it there p refl

  parts : ArePartsOf t s p
  parts = came_parts c places s here p flies

  -- ## Records

  stays : (f : List ℕ) → has_record s f ≡ true → has_record t f ≡ true
  stays f has =
      let q = there_is (get s.records f) has in
      ap (λ (o : Option Record). is_some o) (parts.records_left f q.0 q.1)

  -- the record was there, or comes of what the parcel gives
  came : (f : List ℕ) → has_record s f ≡ false → has_record t f ≡ true → gives_it f p ≡ true
  came f none has =
      let q = there_is (get t.records f) has in
      elim (parts.records_part f q.0 q.1) as (λ _. gives_it f p ≡ true) [
        | inl was ↦ (let wrong : true ≡ false = sym (ap (λ (o : Option Record). is_some o) was) ∙ none in absurd (cc wrong))
        | inr of ↦ record_sent c.journal p (places.sent p flies) (f, q.0) of
      ]

  -- the next file above what is held does not come, since its record is with the server that gave it out
  stays_off : (g d : List ℕ) (ds : List (List ℕ)) → HoldsPath s (g ∷ d ∷ ds) → has_record s d ≡ false → has_record t d ≡ false
  stays_off g d ds held none = by (has_record t d) refl
    where
      by : (b : Bool) → has_record t d ≡ b → b ≡ false
      by false q = refl
      by true q =
          let its = held_given c k s held.lease h at held.held in
          let has : has_record its.server d ≡ true = (subst (IsSupported its.server) held.path its.right.supported).0 in
          absurd (not_both c.servers (parcels_of c.in_flight) places.one d its.server p its.there flies
          ((places.homes its.server its.there).records d has) (came d none q))

  -- ## Runs

  abbrev StaysOff : List (List ℕ) → Type 0
  StaysOff up =
      (g d : List ℕ) (ds : List (List ℕ)) → rests_from s up ≡ Some (g ∷ d ∷ ds) → has_record s d ≡ false → has_record t d ≡ false

  abbrev IsSameRun : List (List ℕ) → Type 0
  IsSameRun up = (run_up t up ≡ run_up s up) × (rests_from t up ≡ rests_from s up)

  -- a file that is here, and what is above it
  run_above : (f : List ℕ) (fs : List (List ℕ)) → has_record s f ≡ true → run_up t fs ≡ run_up s fs → run_up t (f ∷ fs) ≡ run_up s (f ∷ fs)
  run_above f fs has same = ap (λ b. cond b (f ∷ run_up t fs) []) (stays f has ∙ sym has) ∙ ap (λ r. cond (has_record s f) (f ∷ r) []) same

  same_run : (f : List ℕ) (fs : List (List ℕ)) → has_record s f ≡ true → StaysOff (f ∷ fs) → IsSameRun (f ∷ fs)
  same_run f [] has off = (run_above f [] has refl, refl)
  same_run f (d ∷ ds) has off = elim (has_record s d) as (λ b. has_record s d ≡ b → IsSameRun (f ∷ d ∷ ds)) [
    | true ↦ λ q. (let rest : rests_from s (f ∷ d ∷ ds) ≡ rests_from s (d ∷ ds) =
        ap (λ b. cond b (rests_from s (d ∷ ds)) (Some (f ∷ d ∷ ds))) q in
        let above = same_run d ds q (λ g i is z n. off g i is (rest ∙ z) n) in (
          run_above f (d ∷ ds) has above.0,
          ap (λ b. cond b (rests_from t (d ∷ ds)) (Some (f ∷ d ∷ ds))) (stays d q) ∙ above.1 ∙ sym rest,
        ))
    | false ↦ λ q. (let none : has_record t d ≡ false = off f d ds (ap (λ b. cond b (rests_from s (d ∷ ds)) (Some (f ∷ d ∷ ds))) q) q in (
      run_above f (d ∷ ds) has
          (ap (λ b. cond b (d ∷ run_up t ds) []) none ∙ sym (ap (λ b. cond b (d ∷ run_up s ds) []) q)),
      ap (λ b. cond b (rests_from t (d ∷ ds)) (Some (f ∷ d ∷ ds))) none
          ∙ sym (ap (λ b. cond b (rests_from s (d ∷ ds)) (Some (f ∷ d ∷ ds))) q),
    ))
  ] refl

  -- above the file of a path
  runs : (f d : List ℕ) (ds : List (List ℕ)) → IsSupported s (f ∷ d ∷ ds) → IsSameRun (d ∷ ds)
  runs f d ds a = same_run d ds a.0 (λ g i is z none. stays_off g i is (a.1 (g ∷ i ∷ is) z) none)

  -- ## What was given out

  supported_then : (up : List (List ℕ)) → IsSupported s up → IsSupported t up
  supported_then [] a = a
  supported_then (f ∷ []) a = a
  supported_then (f ∷ d ∷ ds) a = (stays d a.0, λ files z. held_still s t files refl (a.1 files (sym (runs f d ds a).1 ∙ z)))

  avoids_then : (g : List ℕ) (up : List (List ℕ)) → IsSupported s up → Avoids s g up → Avoids t g up
  avoids_then g [] a v = v
  avoids_then g (f ∷ []) a v = absurd a
  avoids_then g (f ∷ d ∷ ds) a v = (v.0, λ i. v.1 (subst (In g) (runs f d ds a).0 i))

  own_true : (l : PathLease) → In l s.paths.issued → IsTruePath (held_by c) c.journal t l
  own_true l i =
      let r = h.truth s here l i in
      record {
        begins = r.begins;
        chain = r.chain;
        dirs = r.dirs;
        supported = supported_then (upwards l) r.supported;
        avoids = λ f kept. avoids_then f (upwards l) r.supported (r.avoids f kept);
      }

  pub installed_true : AllTrue later
  installed_true = same_space_true c k e x h (arriving_keeps k from c s p at places there).1 (append-nil c.journal) own_true

  pub installed_tokens : TokensKept later
  installed_tokens = asks_on c k e s x (tokens_of c h) at (record {
    me = refl;
    issued = refl;
    held = refl;
    given = refl;
    journal = nothing_made c later refl;
    sent = λ f i. absurd i;
    brings = λ n. (let without = on_way_without n from k c.in_flight it there in omega (arith, without));
  })
