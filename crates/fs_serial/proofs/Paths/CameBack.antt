-- A path lease comes back to the server that gave it out.
use Rattle.std.proofs.Common.{◌≡◌, ◌+◌, ◌≤◌, ℕ, Bool, true, false, not, List, [], ◌∷◌, refl, ap, sym, ◌∙◌, subst, cond, inl, inr, arith}
use Rattle.std.specs.Prelude.{◌⊎◌, Some, option_map, slice_get}
use Rattle.std.specs.List.{filter, find}
use Rattle.fs_ident.specs.In.{In}
use Rattle.fs_ident.specs.declared.actor.PathNo.{PathNo}
use Rattle.fs_ident.proofs.Passing.{found}
use Rattle.fs_ident.proofs.Same.{itself}
use Rattle.fs_ident.proofs.Standing.{In-filter, In-got}
use Rattle.fs_moderows.proofs.Witnesses.{In_filtered}
use Rattle.fs_msg.specs.declared.peer_msg.PeerMsg.TheVariants.{PathRelease}
use Rattle.fs_parcel.proofs.Both.{passing}
use Rattle.fs_path.specs.Leases.{PathLease, has_no}
use Rattle.fs_path.specs.Returns.{without_no}
use Rattle.fs_path.specs.Tables.{is_leaving, issued_to, lease_of}
use Rattle.fs_path.specs.declared.having.Having.{Having}
use Rattle.fs_server.specs.PathSteps.{is_out_to, path_back, path_release_step}
use Rattle.fs_server.specs.Server.{Stepped, strange}
use Rattle.fs_server.specs.declared.event.ServerEvent.{ServerEvent}
use Rattle.fs_server.specs.declared.event.ServerEvent.TheVariants.{FromPeer}
use Rattle.fs_server.specs.declared.state.Server.{Server}
use Rattle.fs_serial.specs.Cluster.{Cluster, InFlight, IsThere, after_step, in_flight_from, is_between, without_arrived}
use Rattle.fs_serial.specs.PathLaws.{after_path}
use Rattle.fs_serial.specs.Paths.{IsOut, SaysPath}
use Rattle.fs_serial.proofs.Paths.Counting.{IsNobodys, alone, had, no_is, no_itself, on_way, on_way_without}
use Rattle.fs_serial.proofs.Paths.Returning.{as_many_back, gone_say, left_out}
use Rattle.fs_serial.proofs.Paths.Tokens.{TokensKept, nothing_made, once_then, out_then, tokens_go_on}

-- ## Lists without some

-- the first that passes is the first of those left, where it is left
pub find_left : {X : Type 0} (test left : X → Bool) (xs : List X) (x : X) → find test xs ≡ Some x → left x ≡ true → find test (filter left xs) ≡ Some x
find_left test left [] x e h = absurd (cc e)
find_left test left (y ∷ ys) x e h = by (test y) refl (λ q. find_left test left ys x q h) e
  where
    skip : (b : Bool) → test y ≡ false → find test (filter left ys) ≡ Some x → find test (cond b (y ∷ filter left ys) (filter left ys)) ≡ Some x
    skip true n r = ap (λ b. cond b (Some y) (find test (filter left ys))) n ∙ r
    skip false n r = r

    by : (b : Bool) → test y ≡ b → (find test ys ≡ Some x → find test (filter left ys) ≡ Some x) → cond b (Some y) (find test ys) ≡ Some x
        → find test (filter left (y ∷ ys)) ≡ Some x
    by true t rest q =
        let same : y ≡ x = cc q in
        let stays : left y ≡ true = ap left same ∙ h in
        ap (λ b. find test (cond b (y ∷ filter left ys) (filter left ys))) stays ∙ ap (λ b. cond b (Some y) (find test (filter left ys))) t ∙ ap Some same
    by false t rest q = skip (left y) t (rest q)

-- ## The step

module _ (c : Cluster) (k from : ℕ) (s : Server) (number : PathNo) (t : TokensKept c) (at : slice_get c.servers k ≡ Some s)
    (there : IsThere k (FromPeer from (PathRelease number)) c) where
  abbrev e : ServerEvent
  e = FromPeer from (PathRelease number)

  abbrev f : InFlight
  f = record { from = from; to = k; message = PathRelease number }

  abbrev x : Stepped
  x = path_back number s

  abbrev later : Cluster
  later = after_step k e x c

  abbrev left : List PathLease
  left = without_no number s.paths.issued

  said : SaysPath c from k (PathRelease number)
  said = t.says f (found (is_between from k) c.in_flight f there).0

  -- the lease that comes back was given out to the server from which it comes
  its_server : IsOut c k said.0 → In said.0 s.paths.issued
  its_server o = let both : Some o.server ≡ Some s = sym o.there ∙ at in let same : o.server ≡ s = cc both in subst (λ (z : Server). In said.0 z.paths.issued) same o.issued

  pub out_to : issued_to number s.paths.issued ≡ Some from
  out_to =
      ap (λ n. option_map (λ (l : PathLease). l.peer) (find (has_no n) s.paths.issued)) (sym said.1.0)
      ∙ ap (option_map (λ (l : PathLease). l.peer)) (t.single s (In-got c.servers k s at) said.0 (its_server said.1.1.1))
      ∙ ap Some said.1.1.0

  pub not_strange : is_out_to from (issued_to number s.paths.issued) ≡ true
  not_strange = ap (is_out_to from) out_to ∙ itself from

  pub is_back : path_release_step from number s ≡ x
  is_back = ap (λ b. cond b x (strange s)) not_strange

  -- nobody else has it
  nobodys : IsNobodys number c.servers (without_arrived k e c.in_flight)
  nobodys = alone number c.servers from k c.in_flight f there (no_itself number) (t.once number)

  others_stay : (l : PathLease) → In l s.paths.issued → has_no number l ≡ false → In l left
  others_stay l i n = In_filtered (λ y. not (has_no number y)) s.paths.issued l i (ap not n)

  stays : (l : PathLease) → In l s.paths.issued → In l left ⊎ IsNobodys l.no c.servers (without_arrived k e c.in_flight)
  stays l i = by (has_no number l) refl
    where
      by : (b : Bool) → has_no number l ≡ b → In l left ⊎ IsNobodys l.no c.servers (without_arrived k e c.in_flight)
      by true q = inr (subst (λ n. IsNobodys n c.servers (without_arrived k e c.in_flight)) (sym (no_is l.no number q)) nobodys)
      by false q = inl (others_stay l i q)

  single : (l : PathLease) → In l left → find (has_no l.no) left ≡ Some l
  single l i = find_left (has_no l.no) (λ y. not (has_no number y)) s.paths.issued l
      (t.single s (In-got c.servers k s at) l (In-filter (λ y. not (has_no number y)) l s.paths.issued i))
      (passing (λ y. not (has_no number y)) s.paths.issued l i)

  -- what the server has is given out still
  still_out : (h : Having) → In h s.paths.held → IsOut later (lease_of h).peer (record (lease_of h) { peer = k })
  still_out h i = out_then c k e s x (lease_of h).peer (record (lease_of h) { peer = k }) at (t.held k s at h i)
      (λ j. others_stay (record (lease_of h) { peer = k }) j (nobodys.unheld k s at h i))

  few : (n : PathNo) → on_way n (without_arrived k e c.in_flight) + on_way n (in_flight_from k x.out.send) + had n x.server.paths.held
      ≤ on_way n c.in_flight + had n s.paths.held
  few n =
      let w = on_way_without n from k c.in_flight f there in
      let same = as_many_back n k is_leaving left s.paths.held in
      omega (arith, w, same)

  back_kept : TokensKept later
  back_kept = tokens_go_on c k e s x t at (record {
    me = refl;
    journal = nothing_made c later refl;
    given = λ l i. t.given s (In-got c.servers k s at) l (In-filter (λ y. not (has_no number y)) l s.paths.issued i);
    single = single;
    stays = stays;
    sent = gone_say later k is_leaving left s.paths.held still_out;
    held = left_out later k is_leaving left s.paths.held still_out;
    once = λ n. once_then c k e s x t at n (few n);
  })

  pub release_kept : TokensKept (after_path k from (PathRelease number) s c)
  release_kept = subst (λ y. TokensKept (after_step k e y c)) (sym is_back) back_kept
