-- Path leases are asked back: one by its number, or all over what was to go.
use Rattle.std.proofs.Common.{◌≡◌, ◌+◌, ◌≤◌, ℕ, Bool, true, false, not, List, [], ◌∷◌, ◌++◌, length, map, refl, ap, sym, ◌∙◌, subst, inl, inr, arith}
use Rattle.std.specs.Prelude.{◌&&◌, Option, Some, None, option_map, slice_get}
use Rattle.std.specs.List.{filter, find}
use Rattle.fs_ident.specs.In.{In}
use Rattle.fs_ident.specs.declared.actor.PathNo.{PathNo}
use Rattle.fs_ident.specs.declared.actor.Peer.{Peer}
use Rattle.fs_ident.proofs.Booleans.{joined}
use Rattle.fs_ident.proofs.Passing.{found}
use Rattle.fs_ident.proofs.Standing.{In-append, In-got, any_In}
use Rattle.fs_moderows.proofs.Witnesses.{In_any, In_filtered}
use Rattle.fs_msg.specs.declared.msg.Msg.{Msg}
use Rattle.fs_msg.specs.declared.peer_msg.PeerMsg.TheVariants.{PathRecall, PathRelease}
use Rattle.fs_msg.specs.declared.server_note.ServerNote.{ServerNote}
use Rattle.fs_msg.specs.declared.server_note.ServerNote.TheVariants as note
use Rattle.fs_path.specs.Leases.{PathLease, goes_over, same_path_no, named_to_peer}
use Rattle.fs_path.specs.Returns.{goes_back, held_after, is_asked_in, is_into, is_needed, is_of, recalled_as, recalls, releases, rests_on_asked}
use Rattle.fs_path.specs.Tables.{lease_of}
use Rattle.fs_path.specs.declared.having.Having.{Having}
use Rattle.fs_server.specs.Follows.{to_server}
use Rattle.fs_server.specs.PathSteps.{asks_back_in, goes_down, path_recalls, path_releases, sends}
use Rattle.fs_server.specs.declared.event.ServerEvent.{ServerEvent}
use Rattle.fs_server.specs.declared.event.ServerEvent.TheVariants.{FromPeer, Move}
use Rattle.fs_server.specs.declared.state.Server.{Server}
use Rattle.fs_serial.specs.Cluster.{Cluster, InFlight, IsThere, after_step, in_flight_from, without_arrived}
use Rattle.fs_serial.specs.PathLaws.{after_path}
use Rattle.fs_serial.specs.Paths.{IsOut, SaysPath}
use Rattle.fs_serial.proofs.Lists.Counted.{one_if, one_of}
use Rattle.fs_serial.proofs.Paths.Counting.{had, had_after, no_is, on_way, on_way_more, on_way_without}
use Rattle.fs_serial.proofs.Lists.Traffic.{sent_append}
use Rattle.fs_serial.proofs.Paths.Returning.{as_many_back, gone_say, left_out, recalls_bring_none, recalls_say, returned_says}
use Rattle.fs_serial.proofs.Paths.Tokens.{TokensKept, nothing_made, once_then, out_then, tokens_go_on}

-- ## A server asks some of its leases back

-- what it sends is known to be said truly, and no more leases are on their way than went
module _ (c : Cluster) (k : ℕ) (e : ServerEvent) (s : Server) (t : TokensKept c) (at : slice_get c.servers k ≡ Some s) (asked : Having → Bool) where
  abbrev then_has : Server
  then_has = record s { paths = record s.paths { held = held_after asked s.paths.issued s.paths.held } }

  abbrev later : ServerNote → List (Peer × Msg) → Cluster
  later n ms = after_step k e (sends n ms then_has) c

  still_out : (n : ServerNote) (ms : List (Peer × Msg)) (h : Having) → In h s.paths.held
      → IsOut (later n ms) (lease_of h).peer (record (lease_of h) { peer = k })
  still_out n ms h i = out_then c k e s (sends n ms then_has) (lease_of h).peer (record (lease_of h) { peer = k }) at (t.held k s at h i) (λ j. j)

  pub asked_kept : (n : ServerNote) (ms : List (Peer × Msg))
      → ((f : InFlight) → In f (in_flight_from k ms) → SaysPath (later n ms) f.from f.to f.message)
      → ((number : PathNo) → on_way number (without_arrived k e c.in_flight) + on_way number (in_flight_from k ms) + had number then_has.paths.held
      ≤ on_way number c.in_flight + had number s.paths.held)
      → TokensKept (later n ms)
  asked_kept n ms say few = tokens_go_on c k e s (sends n ms then_has) t at (record {
    me = refl;
    journal = nothing_made c (later n ms) refl;
    given = t.given s (In-got c.servers k s at);
    single = t.single s (In-got c.servers k s at);
    stays = λ l i. inl i;
    sent = say;
    held = left_out (later n ms) k asked s.paths.issued s.paths.held (still_out n ms);
    once = λ number. once_then c k e s (sends n ms then_has) t at number (few number);
  })

-- ## All over what was to go

module _ (c : Cluster) (k to : ℕ) (s : Server) (prefix : List ℕ) (n : ServerNote) (t : TokensKept c) (at : slice_get c.servers k ≡ Some s) where
  abbrev into : Having → Bool
  into = is_into s.map s.me prefix

  abbrev asks : List (Peer × Msg)
  asks = path_recalls (recalls (is_asked_in s.map s.me prefix s.paths.held) s.paths.issued)

  abbrev gives : List (Peer × Msg)
  gives = path_releases (releases into s.paths.issued s.paths.held)

  abbrev then_all : Cluster
  then_all = after_step k (Move prefix to) (asks_back_in prefix n s) c

  all_said : (f : InFlight) → In f (in_flight_from k (asks ++ gives)) → SaysPath then_all f.from f.to f.message
  all_said f i = elim (In-append f (in_flight_from k asks) (in_flight_from k gives) (subst (In f) (sent_append k asks gives) i)) as
      (λ _. SaysPath then_all f.from f.to f.message) [
        | inl j ↦ recalls_say then_all k (recalls (is_asked_in s.map s.me prefix s.paths.held) s.paths.issued) f j
        | inr j ↦ gone_say then_all k into s.paths.issued s.paths.held (still_out c k (Move prefix to) s t at into n (asks ++ gives)) f j
      ]

  all_few : (number : PathNo)
      → on_way number c.in_flight + on_way number (in_flight_from k (asks ++ gives)) + had number (held_after into s.paths.issued s.paths.held)
      ≤ on_way number c.in_flight + had number s.paths.held
  all_few number =
      let both : on_way number (in_flight_from k (asks ++ gives)) ≡ on_way number (in_flight_from k asks) + on_way number (in_flight_from k gives) =
      ap (on_way number) (sent_append k asks gives) ∙ on_way_more number (in_flight_from k asks) (in_flight_from k gives) in
      let none = recalls_bring_none number k (recalls (is_asked_in s.map s.me prefix s.paths.held) s.paths.issued) in
      let same = as_many_back number k into s.paths.issued s.paths.held in
      omega (arith, both, none, same)

  pub asking_back_kept : TokensKept then_all
  asking_back_kept = asked_kept c k (Move prefix to) s t at into n (asks ++ gives) all_said all_few

-- ## One by its number

module _ (c : Cluster) (k from : ℕ) (s : Server) (number : PathNo) (t : TokensKept c) (at : slice_get c.servers k ≡ Some s)
    (there : IsThere k (FromPeer from (PathRecall number)) c) where
  abbrev e : ServerEvent
  e = FromPeer from (PathRecall number)

  abbrev then_its : Server
  then_its = then_has c k e s t at (is_of number)

  taken : (n : PathNo) → on_way n c.in_flight ≡ on_way n (without_arrived k e c.in_flight)
  taken n = let w = on_way_without n from k c.in_flight (record { from = from; to = k; message = PathRecall number }) there in omega (arith, w)

  -- nothing is given back
  none_back : (n : ServerNote) (xs : List (ℕ × PathNo)) → TokensKept (after_step k e (sends n (path_recalls xs) then_its) c)
  none_back n xs = asked_kept c k e s t at (is_of number) n (path_recalls xs)
      (recalls_say (after_step k e (sends n (path_recalls xs) then_its) c) k xs)
      (λ m. let w = taken m in let none = recalls_bring_none m k xs in let less = had_after m (is_of number) s.paths.issued s.paths.held in omega (arith, w, none, less))

  -- or the lease itself, where nothing rests on it
  module _ (h : Having) (has : In h s.paths.held) (its : is_of number h ≡ true)
      (none : filter (rests_on_asked (is_of number) s.paths.held) s.paths.issued ≡ []) where
    abbrev ms : List (Peer × Msg)
    ms = to_server (lease_of h).peer (PathRelease number) ∷ []

    abbrev then_back : Cluster
    then_back = after_step k e (sends (note.PathFrees number) ms then_its) c

    unneeded : (b : Bool) → is_needed s.paths.issued h ≡ b → b ≡ false
    unneeded false q = refl
    unneeded true q =
        let l = any_In (goes_over (lease_of h).file) s.paths.issued q in
        let rests : rests_on_asked (is_of number) s.paths.held l.0 ≡ true =
        In_any (λ g. is_of number g && goes_over (lease_of g).file l.0) s.paths.held h has (joined (is_of number h) (goes_over (lease_of h).file l.0) its l.1.1) in
        absurd (subst (In l.0) none (In_filtered (rests_on_asked (is_of number) s.paths.held) s.paths.issued l.0 l.1.0 rests))

    goes : In h (filter (goes_back (is_of number) s.paths.issued) s.paths.held)
    goes = In_filtered (goes_back (is_of number) s.paths.issued) s.paths.held h has
        (joined (is_of number h) (not (is_needed s.paths.issued h)) its (ap not (unneeded (is_needed s.paths.issued h) refl)))

    -- the one message counts no more than what went
    one_back : (n : PathNo) → one_if (same_path_no number n) ≤ had n (filter (goes_back (is_of number) s.paths.issued) s.paths.held)
    one_back n = by (same_path_no number n) refl
      where
        by : (b : Bool) → same_path_no number n ≡ b → one_if b ≤ had n (filter (goes_back (is_of number) s.paths.issued) s.paths.held)
        by true q = one_of (is_of n) (filter (goes_back (is_of number) s.paths.issued) s.paths.held) h goes
            (ap (λ m. same_path_no m n) (no_is (lease_of h).no number its) ∙ q)
        by false q = omega arith

    says : SaysPath then_back k (lease_of h).peer (PathRelease number)
    says = subst (λ m. SaysPath then_back k (lease_of h).peer (PathRelease m)) (no_is (lease_of h).no number its)
        (returned_says then_back k (lease_of h) (still_out c k e s t at (is_of number) (note.PathFrees number) ms h has))

    say : (f : InFlight) → In f (in_flight_from k ms) → SaysPath then_back f.from f.to f.message
    say f (inl q) = subst (λ (g : InFlight). SaysPath then_back g.from g.to g.message) (sym q) says
    say f (inr i) = absurd i

    back : TokensKept then_back
    back = asked_kept c k e s t at (is_of number) (note.PathFrees number) ms say
        (λ m. let w = taken m in let less = had_after m (is_of number) s.paths.issued s.paths.held in let one = one_back m in omega (arith, w, less, one))

  recalled_by : (o : Option Having) → find (is_of number) s.paths.held ≡ o
      → (down : List PathLease) → filter (rests_on_asked (is_of number) s.paths.held) s.paths.issued ≡ down
      → TokensKept (after_step k e (goes_down number (recalled_as (option_map (λ h. (lease_of h).peer) o) (map named_to_peer down)) then_its) c)
  recalled_by None q down d = none_back note.PathNone []
  recalled_by (Some h) q [] d = let f = found (is_of number) s.paths.held h q in back h f.0 f.1 d
  recalled_by (Some h) q (l ∷ ls) d = none_back (note.PathDown number (length (named_to_peer l ∷ map named_to_peer ls))) (named_to_peer l ∷ map named_to_peer ls)

  pub recall_kept : TokensKept (after_path k from (PathRecall number) s c)
  recall_kept = recalled_by (find (is_of number) s.paths.held) refl (filter (rests_on_asked (is_of number) s.paths.held) s.paths.issued) refl
