-- Steps that leave the leases of their server as they are, and send none: a path is denied, or is asked for.
use Rattle.std.proofs.Common.{◌≡◌, ◌+◌, ◌≤◌, ◌==◌, ℕ, Bool, true, false, List, [], ◌∷◌, refl, ap, sym, ◌∙◌, subst, cond, inl, inr, arith}
use Rattle.std.specs.Prelude.{Option, Some, None, slice_get}
use Rattle.std.specs.List.{find}
use Rattle.fs_ident.specs.In.{In}
use Rattle.fs_ident.specs.declared.actor.PathNo.{PathNo}
use Rattle.fs_ident.specs.declared.kind.Kind.TheVariants.{Dir}
use Rattle.fs_ident.proofs.Passing.{found}
use Rattle.fs_ident.proofs.Standing.{In-got}
use Rattle.fs_msg.specs.declared.peer_msg.PeerMsg.TheVariants.{PathAsk, PathNo as Denied}
use Rattle.fs_msg.specs.declared.server_note.ServerNote.TheVariants as note
use Rattle.fs_path.specs.Leases.{has_no}
use Rattle.fs_path.specs.Tables.{lease_of}
use Rattle.fs_record.specs.declared.led_end.Why.{Why}
use Rattle.fs_record.specs.declared.led_end.Why.TheVariants as why
use Rattle.fs_server.specs.Follows.{to_server}
use Rattle.fs_server.specs.PathSteps.{dir_here, fails_path, moved_path, sends}
use Rattle.fs_server.specs.Server.{Stepped}
use Rattle.fs_server.specs.declared.event.ServerEvent.{ServerEvent}
use Rattle.fs_server.specs.declared.event.ServerEvent.TheVariants.{FromPeer}
use Rattle.fs_server.specs.declared.state.Server.{Server}
use Rattle.fs_serial.specs.Cluster.{Cluster, InFlight, IsThere, after_step, in_flight_from, is_between, without_arrived}
use Rattle.fs_serial.specs.Fresh.{made}
use Rattle.fs_serial.specs.PathLaws.{after_path}
use Rattle.fs_serial.specs.Paths.{SaysPath}
use Rattle.fs_serial.proofs.Paths.Counting.{had, on_way, on_way_without}
use Rattle.fs_serial.proofs.Paths.Tokens.{StayMade, TokensKept, nothing_made, once_then, out_then, tokens_go_on}

-- the leases of the server stay, and what is sent is on directories
pub record AsksOn (k : ℕ) (e : ServerEvent) (s : Server) (x : Stepped) (c : Cluster) : Type 0 where
  pub me : x.server.me ≡ s.me
  pub issued : x.server.paths.issued ≡ s.paths.issued
  pub held : x.server.paths.held ≡ s.paths.held
  pub given : x.server.paths_given ≡ s.paths_given
  pub journal : StayMade c (after_step k e x c)
  pub sent : (f : InFlight) → In f (in_flight_from k x.out.send) → SaysPath (after_step k e x c) f.from f.to f.message
  pub brings : (n : PathNo) → on_way n (without_arrived k e c.in_flight) + on_way n (in_flight_from k x.out.send) ≤ on_way n c.in_flight

pub asks_on : (c : Cluster) (k : ℕ) (e : ServerEvent) (s : Server) (x : Stepped) → TokensKept c → slice_get c.servers k ≡ Some s → AsksOn k e s x c
    → TokensKept (after_step k e x c)
asks_on c k e s x t at a = tokens_go_on c k e s x t at (record {
  me = a.me;
  journal = a.journal;
  given = λ l i. let g = t.given s (In-got c.servers k s at) l (subst (In l) a.issued i) in
      let more = a.given in (g.0 ∙ sym a.me, omega (arith, g.1, more));
  single = λ l i. subst (λ ls. find (has_no l.no) ls ≡ Some l) (sym a.issued) (t.single s (In-got c.servers k s at) l (subst (In l) a.issued i));
  stays = λ l i. inl (subst (In l) (sym a.issued) i);
  sent = a.sent;
  held = λ h i. out_then c k e s x (lease_of h).peer (record (lease_of h) { peer = k }) at (t.held k s at h (subst (In h) a.held i))
      (λ j. subst (In (record (lease_of h) { peer = k })) (sym a.issued) j);
  once = λ n. once_then c k e s x t at n (let same = ap (had n) a.held in let b = a.brings n in omega (arith, same, b));
})

-- ## A path is denied

module _ (c : Cluster) (k from : ℕ) (s : Server) (file : List ℕ) (w : Why) (t : TokensKept c) (at : slice_get c.servers k ≡ Some s)
    (there : IsThere k (FromPeer from (Denied file w)) c) where
  abbrev e : ServerEvent
  e = FromPeer from (Denied file w)

  abbrev f : InFlight
  f = record { from = from; to = k; message = Denied file w }

  said : made c.journal file ≡ Some Dir
  said = t.says f (found (is_between from k) c.in_flight f there).0

  taken : (n : PathNo) → on_way n c.in_flight ≡ on_way n (without_arrived k e c.in_flight)
  taken n = let q = on_way_without n from k c.in_flight f there in omega (arith, q)

  fails : (v : Why) → TokensKept (after_step k e (fails_path file v s) c)
  fails v = asks_on c k e s (fails_path file v s) t at (record {
    me = refl;
    issued = refl;
    held = refl;
    given = refl;
    journal = nothing_made c (after_step k e (fails_path file v s) c) refl;
    sent = λ g i. absurd i;
    brings = λ n. let q = taken n in omega (arith, q);
  })

  abbrev goes_on : ℕ → List ℕ → Stepped
  goes_on to dir = sends (note.PathSeeks file to) (to_server to (PathAsk file dir) ∷ []) s

  asks_again : (to : ℕ) (dir : List ℕ) (g : InFlight) → In g (in_flight_from k (to_server to (PathAsk file dir) ∷ []))
      → SaysPath (after_step k e (goes_on to dir) c) g.from g.to g.message
  asks_again to dir g (inl q) = subst (λ (z : InFlight). SaysPath (after_step k e (goes_on to dir) c) z.from z.to z.message) (sym q)
      (nothing_made c (after_step k e (goes_on to dir) c) refl file said)
  asks_again to dir g (inr i) = absurd i

  seeks : (to : ℕ) (dir : List ℕ) → TokensKept (after_step k e (goes_on to dir) c)
  seeks to dir = asks_on c k e s (goes_on to dir) t at (record {
    me = refl;
    issued = refl;
    held = refl;
    given = refl;
    journal = nothing_made c (after_step k e (goes_on to dir) c) refl;
    sent = asks_again to dir;
    brings = λ n. let q = taken n in omega (arith, q);
  })

  moved : (v : Why) (to : ℕ) (d : Option (List ℕ)) → TokensKept (after_step k e (moved_path file v to d s) c)
  moved v to None = fails v
  moved v to (Some dir) = by (to == s.me)
    where
      by : (b : Bool) → TokensKept (after_step k e (cond b (fails_path file v s) (goes_on to dir)) c)
      by true = fails v
      by false = seeks to dir

pub denied_kept : (c : Cluster) (k from : ℕ) (s : Server) (file : List ℕ) (w : Why) → TokensKept c → slice_get c.servers k ≡ Some s
    → IsThere k (FromPeer from (Denied file w)) c → TokensKept (after_path k from (Denied file w) s c)
denied_kept c k from s file (why.Moved prefix to) t at there = moved c k from s file (why.Moved prefix to) t at there (why.Moved prefix to) to (dir_here s.records file)
denied_kept c k from s file w t at there = fails c k from s file w t at there w
