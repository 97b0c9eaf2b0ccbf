-- A path lease comes: it is kept, or goes back at once.
use Rattle.std.proofs.Common.{◌≡◌, ◌+◌, ℕ, Bool, true, false, List, [], ◌∷◌, refl, ap, sym, subst, cond, inl, inr, arith}
use Rattle.std.specs.Prelude.{Some, slice_get}
use Rattle.fs_ident.specs.In.{In}
use Rattle.fs_ident.specs.declared.actor.PathNo.{PathNo}
use Rattle.fs_ident.proofs.Passing.{found}
use Rattle.fs_ident.proofs.Standing.{In-got, In-put}
use Rattle.fs_moderows.proofs.Witnesses.{In_none}
use Rattle.fs_msg.specs.declared.peer_msg.PeerMsg.TheVariants.{PathGrant, PathRelease}
use Rattle.fs_path.specs.Leases.{PathLease, path_before}
use Rattle.fs_path.specs.Returns.{is_of}
use Rattle.fs_path.specs.Tables.{holds, lease_of, with_held}
use Rattle.fs_path.specs.declared.having.Having.{Having}
use Rattle.fs_path.specs.declared.having.Having.TheVariants.{Held}
use Rattle.fs_server.specs.Follows.{to_server}
use Rattle.fs_server.specs.PathSteps.{dir_here, is_same_dir, keeps_path, last_dir, path_grant_step, without_asking}
use Rattle.fs_server.specs.Server.{Stepped, strange}
use Rattle.fs_server.specs.declared.event.ServerEvent.{ServerEvent}
use Rattle.fs_server.specs.declared.event.ServerEvent.TheVariants.{FromPeer}
use Rattle.fs_server.specs.declared.state.Server.{Server}
use Rattle.fs_serial.specs.Cluster.{Cluster, InFlight, IsThere, after_step, in_flight_from, is_between, without_arrived}
use Rattle.fs_serial.specs.PathLaws.{after_path}
use Rattle.fs_serial.specs.Paths.{IsOut, SaysPath}
use Rattle.fs_serial.proofs.Lists.Counted.{one_if, total_put}
use Rattle.fs_serial.proofs.Paths.Counting.{IsNobodys, alone, no_itself, on_way, on_way_without}
use Rattle.fs_serial.proofs.Paths.Returning.{returned_says}
use Rattle.fs_serial.proofs.Paths.Tokens.{TokensKept, nothing_made, once_then, out_then, tokens_go_on}

module _ (c : Cluster) (k from : ℕ) (s : Server) (number : PathNo) (file : List ℕ) (path : List (List ℕ)) (t : TokensKept c)
    (at : slice_get c.servers k ≡ Some s) (there : IsThere k (FromPeer from (PathGrant number file path)) c) where
  abbrev e : ServerEvent
  e = FromPeer from (PathGrant number file path)

  abbrev f : InFlight
  f = record { from = from; to = k; message = PathGrant number file path }

  -- the lease, as the server has it
  abbrev new : PathLease
  new = record { no = number; peer = from; file = file; path = path }

  abbrev names_it : Bool
  names_it = is_same_dir (dir_here s.records file) (last_dir path)

  abbrev x : Bool → Stepped
  x b = keeps_path b from number file path (without_asking file s)

  abbrev later : Bool → Cluster
  later b = after_step k e (x b) c

  said : IsOut c from (record new { peer = k })
  said = t.says f (found (is_between from k) c.in_flight f there).0

  -- the message alone has it
  nobodys : IsNobodys number c.servers (without_arrived k e c.in_flight)
  nobodys = alone number c.servers from k c.in_flight f there (no_itself number) (t.once number)

  pub not_held : holds number s.paths.held ≡ false
  not_held = In_none (is_of number) s.paths.held (λ h i. nobodys.unheld k s at h i)

  pub is_come : path_grant_step from number file path s ≡ x names_it
  is_come = ap (λ b. cond b (strange s) (x names_it)) not_held

  taken : (n : PathNo) → on_way n c.in_flight ≡ one_if (is_of n (Held new)) + on_way n (without_arrived k e c.in_flight)
  taken n = on_way_without n from k c.in_flight f there

  -- ## It is kept

  out_kept : (j : ℕ) (l : PathLease) → IsOut c j l → IsOut (later true) j l
  out_kept j l o = out_then c k e s (x true) j l at o (λ i. i)

  holds_new : (h : Having) → In h (with_held (Held new) s.paths.held) → IsOut (later true) (lease_of h).peer (record (lease_of h) { peer = k })
  holds_new h i = elim (In-put (λ y. path_before number (lease_of y).no) h (Held new) s.paths.held i) as
      (λ _. IsOut (later true) (lease_of h).peer (record (lease_of h) { peer = k })) [
        | inl q ↦ subst (λ (g : Having). IsOut (later true) (lease_of g).peer (record (lease_of g) { peer = k })) (sym q) (out_kept from (record new { peer = k }) said)
        | inr j ↦ out_kept (lease_of h).peer (record (lease_of h) { peer = k }) (t.held k s at h j)
      ]

  kept : TokensKept (later true)
  kept = tokens_go_on c k e s (x true) t at (record {
    me = refl;
    journal = nothing_made c (later true) refl;
    given = t.given s (In-got c.servers k s at);
    single = t.single s (In-got c.servers k s at);
    stays = λ l i. inl i;
    sent = λ g i. absurd i;
    held = holds_new;
    once = λ n. once_then c k e s (x true) t at n (
        let w = taken n in
        let more = total_put (λ h. one_if (is_of n h)) (λ y. path_before number (lease_of y).no) (Held new) s.paths.held in
        omega (arith, w, more));
  })

  -- ## It goes back

  out_dropped : (j : ℕ) (l : PathLease) → IsOut c j l → IsOut (later false) j l
  out_dropped j l o = out_then c k e s (x false) j l at o (λ i. i)

  gives_back : (g : InFlight) → In g (in_flight_from k (to_server from (PathRelease number) ∷ [])) → SaysPath (later false) g.from g.to g.message
  gives_back g (inl q) = subst (λ (z : InFlight). SaysPath (later false) z.from z.to z.message) (sym q)
      (returned_says (later false) k new (out_dropped from (record new { peer = k }) said))
  gives_back g (inr i) = absurd i

  dropped : TokensKept (later false)
  dropped = tokens_go_on c k e s (x false) t at (record {
    me = refl;
    journal = nothing_made c (later false) refl;
    given = t.given s (In-got c.servers k s at);
    single = t.single s (In-got c.servers k s at);
    stays = λ l i. inl i;
    sent = gives_back;
    held = λ h i. out_dropped (lease_of h).peer (record (lease_of h) { peer = k }) (t.held k s at h i);
    once = λ n. once_then c k e s (x false) t at n (let w = taken n in omega (arith, w));
  })

  come : (b : Bool) → TokensKept (later b)
  come true = kept
  come false = dropped

  pub grant_kept : TokensKept (after_path k from (PathGrant number file path) s c)
  grant_kept = subst (λ y. TokensKept (after_step k e y c)) (sym is_come) (come names_it)
