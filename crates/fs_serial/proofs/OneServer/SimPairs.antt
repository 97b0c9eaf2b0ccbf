-- Renewals, releases and recalls come to the same at the server that has all.
use Rattle.std.proofs.Common.{◌≡◌, ℕ, not, Bool, true, false, List, [], ◌∷◌, length, map, refl, ap, ap₂, cond, subst, sym, ◌∙◌, inl, inr}
use Rattle.std.specs.Prelude.{Option, Some, None}
use Rattle.std.specs.List.{filter}
use Rattle.fs_ident.specs.In.{In}
use Rattle.fs_ident.specs.declared.actor.LeaseNo.{LeaseNo}
use Rattle.fs_ident.specs.declared.actor.Session.{Session}
use Rattle.fs_ident.proofs.Standing.{In-map}
use Rattle.fs_field.specs.declared.field.Field.{Field}
use Rattle.fs_field.specs.declared.row.Row.{Row}
use Rattle.fs_field.specs.Field.{file_of}
use Rattle.fs_field.specs.Table.{has_no, is_ordered, renewed_row}
use Rattle.fs_field.proofs.Leases.{none_renewed, renewed_same}
use Rattle.fs_field.proofs.Order.{ordered_filter, ordered_map}
use Rattle.fs_msg.specs.declared.answer.Answer.TheVariants as reply
use Rattle.fs_msg.specs.declared.end.End.{End}
use Rattle.fs_msg.specs.declared.server_note.ServerNote.TheVariants as note
use Rattle.fs_parcel.proofs.Both.{filter_with_rows, map_with_rows, all_pass}
use Rattle.fs_rows.specs.Granted.{with_rows}
use Rattle.fs_rows.specs.Live.{unlocked_on}
use Rattle.fs_moderows.proofs.Witnesses.{In_none}
use Rattle.fs_server.specs.Pairs.{ends_told, numbers_in, pairs_end, pairs_here, release_step, released_here, released_rows, renew_step, renewed_here, renewed_rows}
use Rattle.fs_server.specs.Server.{end_of, is_mine, moved, to_session}
use Rattle.fs_server.specs.Step.{recall_step, recalled_on, recalls_of}
use Rattle.fs_server.specs.declared.out.ServerOut.{ServerOut}
use Rattle.fs_server.specs.declared.state.Server.{Server}
use Rattle.fs_serial.proofs.Places.OtherPlaces.{IsApart, Rest, itself, joined, off_file}
use Rattle.fs_serial.proofs.OneServer.Sim.{IsSim, recalls_quiet}
use Rattle.fs_serial.proofs.Places.Unseen.{any_past, unlocked_past}
use Rattle.fs_serial.proofs.Returns.LaterSteps.{all_released}

-- ## Numbers that no row has

-- none of these rows has one of the numbers
abbrev pub AreAbsent : List LeaseNo → List Row → Type 0
AreAbsent numbers rows = (n : LeaseNo) → In n numbers → (r : Row) → In r rows → has_no n r ≡ false

-- where the file of a pair is managed here, none of these rows has its number
abbrev pub ArePairsHere : Server → List (List ℕ × LeaseNo) → List Row → Type 0
ArePairsHere s pairs rows = (p : List ℕ × LeaseNo) → In p pairs → is_mine s p.0 ≡ true → (r : Row) → In r rows → has_no p.1 r ≡ false

absent_here : (s : Server) (pairs : List (List ℕ × LeaseNo)) (rows : List Row) → ArePairsHere s pairs rows → AreAbsent (numbers_in (pairs_here s pairs)) rows
absent_here s [] rows h n i = absurd i
absent_here s (p ∷ ps) rows h n i =
    elim (is_mine s p.0) as (λ b. is_mine s p.0 ≡ b → In n (numbers_in (cond b (p ∷ pairs_here s ps) [])) → (r : Row) → In r rows → has_no n r ≡ false) [
      | true ↦ λ mine j. elim j as (λ _. (r : Row) → In r rows → has_no n r ≡ false) [
        | inl e ↦ λ r k. ap (λ m. has_no m r) e ∙ h p (inl refl) mine r k
        | inr l ↦ absent_here s ps rows (λ q m. h q (inr m)) n l
      ]
      | false ↦ λ mine j. absurd j
    ] refl i

-- ## Renewals

renewed_past : (until : ℕ) (ns : List LeaseNo) (xs rows : List Row) → AreAbsent ns xs → renewed_rows until ns (with_rows xs rows) ≡ with_rows xs (renewed_rows until ns rows)
renewed_past until [] xs rows h = refl
renewed_past until (n ∷ ns) xs rows h =
    ap (renewed_rows until ns) (
    map_with_rows (renewed_row n until) (λ r. (renewed_same n until r).number) xs rows
    ∙ ap (λ ys. with_rows ys (map (renewed_row n until) rows)) (none_renewed n until xs (In_none (has_no n) xs (h n (inl refl)))))
    ∙ renewed_past until ns xs (map (renewed_row n until) rows) (λ m i. h m (inr i))

renewed_ordered : (until : ℕ) (ns : List LeaseNo) (rows : List Row) → is_ordered rows ≡ true → is_ordered (renewed_rows until ns rows) ≡ true
renewed_ordered until [] rows h = h
renewed_ordered until (n ∷ ns) rows h = renewed_ordered until ns (map (renewed_row n until) rows) (ordered_map (renewed_row n until) (λ r. (renewed_same n until r).number) rows h)

-- renewed rows are on the same fields
renewed_on : (P : Field → Type 0) (until : ℕ) (ns : List LeaseNo) (rows : List Row) → ((r : Row) → In r rows → P r.field) → (r : Row) → In r (renewed_rows until ns rows) → P r.field
renewed_on P until [] rows h = h
renewed_on P until (n ∷ ns) rows h = renewed_on P until ns (map (renewed_row n until) rows) (λ r i.
    let q : (x : Row) × (In x rows × (r ≡ renewed_row n until x)) = In-map (renewed_row n until) r rows i in
    subst P (sym (ap (λ (z : Row). z.field) q.1.1 ∙ (renewed_same n until q.0).field)) (h q.0 q.1.0))

ends_past : (until : ℕ) (ns : List LeaseNo) (xs rows : List Row) → AreAbsent ns xs → ends_told until ns rows ≡ ends_told until ns (with_rows xs rows)
ends_past until [] xs rows h = refl
ends_past until (n ∷ ns) xs rows h =
    ap₂ (λ (b : Bool) (ends : List (LeaseNo × Option ℕ)). (n, cond b (Some until) None) ∷ ends)
    (sym (any_past (has_no n) xs rows (h n (inl refl))))
    (ends_past until ns xs rows (λ m i. h m (inr i)))

renewed_sim : (rest : Rest) (by : Session) (numbers : List LeaseNo) (e : End) (s : Server) → IsApart rest s → AreAbsent numbers rest.rows → IsSim rest s (renewed_here by numbers e (joined rest s)) (renewed_here by numbers e s)
renewed_sim rest by numbers e s a h = record {
  out = ap (λ (ends : List (LeaseNo × Option ℕ)). let o : ServerOut = record { note = note.Renews (length numbers) e; send = to_session by (reply.Renewed ends e) ∷ []; admitted = [] } in o) (ends_past (end_of s) numbers rest.rows s.rows h);
  server = ap (λ rows. let t : Server = record (joined rest s) { rows = rows } in t) (renewed_past (end_of s) numbers rest.rows s.rows h);
  apart = record {
    rows = a.rows;
    records = a.records;
    own_rows = renewed_on (λ field. is_mine s (file_of field) ≡ true) (end_of s) numbers s.rows a.own_rows;
    own_records = a.own_records;
    ordered = subst (λ rows. is_ordered rows ≡ true) (renewed_past (end_of s) numbers rest.rows s.rows h) (renewed_ordered (end_of s) numbers (with_rows rest.rows s.rows) a.ordered);
  };
  self = record { me = refl; skew = refl; last = refl; map = refl };
  quiet = λ k. refl;
}

-- the pairs that are here, and the end, are told by the map alone
pairs_same : (rest : Rest) (s : Server) (pairs : List (List ℕ × LeaseNo)) → pairs_here (joined rest s) pairs ≡ pairs_here s pairs
pairs_same rest s [] = refl
pairs_same rest s (p ∷ ps) = ap (λ qs. cond (is_mine s p.0) (p ∷ qs) []) (pairs_same rest s ps)

end_same : (rest : Rest) (s : Server) (pairs : List (List ℕ × LeaseNo)) → pairs_end (joined rest s) pairs ≡ pairs_end s pairs
end_same rest s [] = refl
end_same rest s (p ∷ ps) = ap (λ e. cond (is_mine s p.0) e (moved s p.0)) (end_same rest s ps)

pub renew_sim : (rest : Rest) (by : Session) (pairs : List (List ℕ × LeaseNo)) (s : Server) → IsApart rest s → ArePairsHere s pairs rest.rows → IsSim rest s (renew_step by pairs (joined rest s)) (renew_step by pairs s)
renew_sim rest by pairs s a h =
    subst (λ ps. IsSim rest s (renewed_here by (numbers_in ps) (pairs_end (joined rest s) pairs) (joined rest s)) (renew_step by pairs s)) (sym (pairs_same rest s pairs))
    (subst (λ e. IsSim rest s (renewed_here by (numbers_in (pairs_here s pairs)) e (joined rest s)) (renew_step by pairs s)) (sym (end_same rest s pairs))
    (renewed_sim rest by (numbers_in (pairs_here s pairs)) (pairs_end s pairs) s a (absent_here s pairs rest.rows h)))

-- ## Releases

abbrev other_than : LeaseNo → Row → Bool
other_than n r = not (has_no n r)

without_past : (n : LeaseNo) (xs rows : List Row) → is_ordered (with_rows xs rows) ≡ true → ((r : Row) → In r xs → has_no n r ≡ false) → filter (other_than n) (with_rows xs rows) ≡ with_rows xs (filter (other_than n) rows)
without_past n xs rows o h =
    filter_with_rows (other_than n) xs rows o
    ∙ ap (λ ys. with_rows ys (filter (other_than n) rows)) (all_pass (other_than n) xs (λ r i. ap not (h r i)))

released_past : (ns : List LeaseNo) (xs rows : List Row) → is_ordered (with_rows xs rows) ≡ true → AreAbsent ns xs
    → (released_rows ns (with_rows xs rows) ≡ with_rows xs (released_rows ns rows)) × (is_ordered (with_rows xs (released_rows ns rows)) ≡ true)
released_past [] xs rows o h = (refl, o)
released_past (n ∷ ns) xs rows o h =
    let one = without_past n xs rows o (h n (inl refl)) in
    let rest = released_past ns xs (filter (other_than n) rows) (subst (λ ys. is_ordered ys ≡ true) one (ordered_filter (other_than n) (with_rows xs rows) o)) (λ m i. h m (inr i)) in
    (ap (released_rows ns) one ∙ rest.0, rest.1)

released_sim : (rest : Rest) (by : Session) (numbers : List LeaseNo) (e : End) (s : Server) → IsApart rest s → AreAbsent numbers rest.rows → IsSim rest s (released_here by numbers e (joined rest s)) (released_here by numbers e s)
released_sim rest by numbers e s a h =
    let q = released_past numbers rest.rows s.rows a.ordered h in
    record {
      out = refl;
      server = ap (λ rows. let t : Server = record (joined rest s) { rows = rows } in t) q.0;
      apart = record {
        rows = a.rows;
        records = a.records;
        own_rows = λ r i. a.own_rows r (all_released numbers s.rows r i);
        own_records = a.own_records;
        ordered = q.1;
      };
      self = record { me = refl; skew = refl; last = refl; map = refl };
      quiet = λ k. refl;
    }

pub release_sim : (rest : Rest) (by : Session) (pairs : List (List ℕ × LeaseNo)) (s : Server) → IsApart rest s → ArePairsHere s pairs rest.rows → IsSim rest s (release_step by pairs (joined rest s)) (release_step by pairs s)
release_sim rest by pairs s a h =
    subst (λ ps. IsSim rest s (released_here by (numbers_in ps) (pairs_end (joined rest s) pairs) (joined rest s)) (release_step by pairs s)) (sym (pairs_same rest s pairs))
    (subst (λ e. IsSim rest s (released_here by (numbers_in (pairs_here s pairs)) e (joined rest s)) (release_step by pairs s)) (sym (end_same rest s pairs))
    (released_sim rest by (numbers_in (pairs_here s pairs)) (pairs_end s pairs) s a (absent_here s pairs rest.rows h)))

-- ## Recalls

recalled_same : (rest : Rest) (field : Field) (s : Server) → IsApart rest s → recalled_on field s ≡ recalled_on field (joined rest s)
recalled_same rest field s a =
    elim (is_mine s (file_of field)) as (λ b. is_mine s (file_of field) ≡ b → cond b (unlocked_on field s.rows) [] ≡ cond b (unlocked_on field (with_rows rest.rows s.rows)) []) [
      | true ↦ λ mine. sym (unlocked_past field rest.rows s.rows (off_file rest s a (file_of field) mine))
      | false ↦ λ mine. refl
    ] refl

pub recall_sim : (rest : Rest) (field : Field) (s : Server) → IsApart rest s → IsSim rest s (recall_step field (joined rest s)) (recall_step field s)
recall_sim rest field s a = record {
  out = ap (λ (leases : List (LeaseNo × Session)). let o : ServerOut = record { note = note.Recalls (length leases); send = recalls_of leases; admitted = [] } in o) (recalled_same rest field s a);
  server = refl;
  apart = a;
  self = itself s;
  quiet = λ k. recalls_quiet k (recalled_on field s);
}
