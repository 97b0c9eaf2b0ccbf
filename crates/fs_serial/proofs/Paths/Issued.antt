-- A path is given out: its lease has a new number, and is on its way alone.
use Rattle.std.proofs.Common.{◌≡◌, ◌+◌, ◌≤◌, ℕ, Bool, true, false, List, [], ◌∷◌, refl, ap, sym, ◌∙◌, subst, cond, inl, inr, arith}
use Rattle.std.specs.Prelude.{Some, None, slice_get}
use Rattle.std.specs.List.{find}
use Rattle.fs_ident.specs.In.{In}
use Rattle.fs_ident.specs.Ordered.{put_before}
use Rattle.fs_ident.specs.declared.actor.PathNo.{PathNo}
use Rattle.fs_ident.proofs.Standing.{In-got, In-put, In-put_here}
use Rattle.fs_msg.specs.declared.peer_msg.PeerMsg.{PeerMsg}
use Rattle.fs_msg.specs.declared.peer_msg.PeerMsg.TheVariants.{PathAsk, PathGrant, PathRelease}
use Rattle.fs_path.specs.Leases.{PathLease, has_no, path_before, same_path_no}
use Rattle.fs_path.specs.Returns.{is_of}
use Rattle.fs_path.specs.Tables.{lease_of, with_issued}
use Rattle.fs_path.specs.declared.having.Having.{Having}
use Rattle.fs_rows.proofs.Granting.{find_put}
use Rattle.fs_server.specs.PathSteps.{gives_path, lease_to, path_number}
use Rattle.fs_server.specs.Server.{Stepped}
use Rattle.fs_server.specs.declared.event.ServerEvent.{ServerEvent}
use Rattle.fs_server.specs.declared.event.ServerEvent.TheVariants.{FromPeer}
use Rattle.fs_server.specs.declared.state.Server.{Server}
use Rattle.fs_serial.specs.Cluster.{Cluster, InFlight, IsThere, after_step, in_flight_from, without_arrived}
use Rattle.fs_serial.specs.Paths.{IsOut, SaysPath, has_path, holders}
use Rattle.fs_serial.proofs.Grants.Leased.{In-put_still}
use Rattle.fs_serial.proofs.Lists.Counted.{one_if}
use Rattle.fs_serial.proofs.Lists.SetAt.{get_here}
use Rattle.fs_serial.proofs.Paths.Counting.{had, holders_then, no_is, no_itself, nobody_has, on_way, on_way_more, on_way_without}
use Rattle.fs_serial.proofs.Paths.Tokens.{TokensKept, nothing_made, out_then, tokens_go_on}

-- ## One more in order

-- the first that passes is the new one, where no other does
find_new : {X : Type 0} (test first : X → Bool) (new : X) (xs : List X) → test new ≡ true → ((x : X) → In x xs → test x ≡ false)
    → find test (put_before first new xs) ≡ Some new
find_new test first new [] e h = ap (λ b. cond b (Some new) None) e
find_new test first new (x ∷ xs) e h = by (first x) (find_new test first new xs e (λ y i. h y (inr i)))
  where
    by : (b : Bool) → find test (put_before first new xs) ≡ Some new → find test (cond b (new ∷ x ∷ xs) (x ∷ put_before first new xs)) ≡ Some new
    by true rest = ap (λ b. cond b (Some new) (find test (x ∷ xs))) e
    by false rest = ap (λ b. cond b (Some x) (find test (put_before first new xs))) (h x (inl refl)) ∙ rest

module _ (c : Cluster) (k from : ℕ) (s : Server) (file dir : List ℕ) (t : TokensKept c) (at : slice_get c.servers k ≡ Some s)
    (there : IsThere k (FromPeer from (PathAsk file dir)) c) where
  abbrev e : ServerEvent
  e = FromPeer from (PathAsk file dir)

  abbrev f : InFlight
  f = record { from = from; to = k; message = PathAsk file dir }

  taken : (n : PathNo) → on_way n c.in_flight ≡ on_way n (without_arrived k e c.in_flight)
  taken n = let q = on_way_without n from k c.in_flight f there in omega (arith, q)

  -- no lease has the new number
  out_is_old : (j : ℕ) (l : PathLease) → IsOut c j l → l.no ≡ path_number s → ⊥
  out_is_old j l o is =
      let its = t.given o.server (In-got c.servers j o.server o.there) l o.issued in
      let here : j ≡ k = sym (t.numbered j o.server o.there) ∙ sym its.0 ∙ ap (λ (n : PathNo). n.server) is ∙ t.numbered k s at in
      let both : Some o.server ≡ Some s = sym o.there ∙ ap (slice_get c.servers) here ∙ at in
      let same : o.server ≡ s = cc both in
      let spent : o.server.paths_given ≡ s.paths_given = ap (λ (z : Server). z.paths_given) same in
      let next : l.no.count ≡ s.paths_given + 1 = ap (λ (n : PathNo). n.count) is in
      absurd (omega (arith, its.1, spent, next))

  says_old : (m : PeerMsg) (x y : ℕ) → SaysPath c x y m → has_path (path_number s) m ≡ true → ⊥
  says_old (PathGrant its g path) x y says h = out_is_old x (record { no = its; peer = y; file = g; path = path }) says (no_is its (path_number s) h)
  says_old (PathRelease its) x y says h = out_is_old y says.0 says.1.1.1 (says.1.0 ∙ no_is its (path_number s) h)
  says_old m x y says h = absurd (cc h)

  unsaid : (g : InFlight) → In g c.in_flight → has_path (path_number s) g.message ≡ false
  unsaid g i = by (has_path (path_number s) g.message) refl
    where
      by : (b : Bool) → has_path (path_number s) g.message ≡ b → b ≡ false
      by true q = absurd (says_old g.message g.from g.to (t.says g i) q)
      by false q = refl

  unheld : (j : ℕ) (y : Server) → slice_get c.servers j ≡ Some y → (h : Having) → In h y.paths.held → is_of (path_number s) h ≡ false
  unheld j y here h i = by (is_of (path_number s) h) refl
    where
      by : (b : Bool) → is_of (path_number s) h ≡ b → b ≡ false
      by true q = absurd (out_is_old (lease_of h).peer (record (lease_of h) { peer = j }) (t.held j y here h i) (no_is (lease_of h).no (path_number s) q))
      by false q = refl

  nobody_yet : holders (path_number s) c.servers c.in_flight ≡ 0
  nobody_yet = nobody_has (path_number s) c.servers c.in_flight (record { unsent = unsaid; unheld = unheld })

  module _ (path : List (List ℕ)) where
    abbrev new : PathLease
    new = lease_to from file path s

    abbrev x : Stepped
    x = gives_path from file path s

    abbrev later : Cluster
    later = after_step k e x c

    not_new : (l : PathLease) → In l s.paths.issued → l.no ≡ path_number s → ⊥
    not_new l i is = out_is_old k l (record { server = s; there = at; issued = i }) is

    differ : (a b : PathNo) → (a ≡ b → ⊥) → same_path_no a b ≡ false
    differ a b n = by (same_path_no a b) refl
      where
        by : (v : Bool) → same_path_no a b ≡ v → v ≡ false
        by true q = absurd (n (no_is a b q))
        by false q = refl

    given : (l : PathLease) → In l (with_issued new s.paths.issued) → (l.no.server ≡ s.me) × (l.no.count ≤ s.paths_given + 1)
    given l i = elim (In-put (λ y. path_before new.no y.no) l new s.paths.issued i) as (λ _. (l.no.server ≡ s.me) × (l.no.count ≤ s.paths_given + 1)) [
      | inl q ↦
          let count : l.no.count ≡ s.paths_given + 1 = ap (λ (y : PathLease). y.no.count) q in
          (ap (λ (y : PathLease). y.no.server) q, omega (arith, count))
      | inr j ↦ let g = t.given s (In-got c.servers k s at) l j in (g.0, omega (arith, g.1))
    ]

    single : (l : PathLease) → In l (with_issued new s.paths.issued) → find (has_no l.no) (with_issued new s.paths.issued) ≡ Some l
    single l i = elim (In-put (λ y. path_before new.no y.no) l new s.paths.issued i) as
        (λ _. find (has_no l.no) (with_issued new s.paths.issued) ≡ Some l) [
          | inl q ↦ subst (λ (y : PathLease). find (has_no y.no) (with_issued new s.paths.issued) ≡ Some y) (sym q)
              (find_new (has_no new.no) (λ y. path_before new.no y.no) new s.paths.issued (no_itself new.no)
              (λ y j. differ y.no new.no (not_new y j)))
          | inr j ↦ find_put (has_no l.no) (λ y. path_before new.no y.no) new s.paths.issued (differ new.no l.no (λ q. not_new l j (sym q)))
              ∙ t.single s (In-got c.servers k s at) l j
        ]

    stays : (l : PathLease) → In l s.paths.issued → In l (with_issued new s.paths.issued)
    stays l i = In-put_still (λ y. path_before new.no y.no) l new s.paths.issued i

    is_out : IsOut later k new
    is_out = record {
      server = x.server;
      there = get_here c.servers k s x.server at;
      issued = In-put_here (λ y. path_before new.no y.no) new s.paths.issued;
    }

    say : (g : InFlight) → In g (in_flight_from k x.out.send) → SaysPath later g.from g.to g.message
    say g (inl q) = subst (λ (z : InFlight). SaysPath later z.from z.to z.message) (sym q) is_out
    say g (inr i) = absurd i

    -- the new one is on its way, and nowhere else
    once : (n : PathNo) → holders n later.servers later.in_flight ≤ 1
    once n = by (same_path_no new.no n) refl
      where
        all : holders n later.servers later.in_flight + (on_way n c.in_flight + had n s.paths.held)
            ≡ holders n c.servers c.in_flight + (on_way n later.in_flight + had n s.paths.held)
        all = holders_then n c.servers k s x.server c.in_flight later.in_flight at

        sum : on_way n later.in_flight ≡ on_way n c.in_flight + (one_if (same_path_no new.no n) + 0)
        sum = let a = on_way_more n (without_arrived k e c.in_flight) (in_flight_from k x.out.send) in let b = taken n in omega (arith, a, b)

        by : (b : Bool) → same_path_no new.no n ≡ b → holders n later.servers later.in_flight ≤ 1
        by true q =
            let none : holders n c.servers c.in_flight ≡ 0 = subst (λ m. holders m c.servers c.in_flight ≡ 0) (no_is new.no n q) nobody_yet in
            let one : one_if (same_path_no new.no n) ≡ 1 = ap one_if q in
            let a = all in
            let b = sum in
            omega (arith, a, b, none, one)
        by false q =
            let one : one_if (same_path_no new.no n) ≡ 0 = ap one_if q in
            let few = t.once n in
            let a = all in
            let b = sum in
            omega (arith, a, b, few, one)

    pub gives_kept : TokensKept later
    gives_kept = tokens_go_on c k e s x t at (record {
      me = refl;
      journal = nothing_made c later refl;
      given = given;
      single = single;
      stays = λ l i. inl (stays l i);
      sent = say;
      held = λ h i. out_then c k e s x (lease_of h).peer (record (lease_of h) { peer = k }) at (t.held k s at h i) (stays (record (lease_of h) { peer = k }));
      once = once;
    })
