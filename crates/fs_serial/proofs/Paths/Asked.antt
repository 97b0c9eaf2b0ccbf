-- A path is asked for: it is given out or denied.
use Rattle.std.proofs.Common.{◌≡◌, ℕ, Bool, true, false, List, [], ◌∷◌, refl, sym, subst, cond, inl, inr, arith}
use Rattle.std.specs.Prelude.{Option, Some, None, slice_get}
use Rattle.fs_ident.specs.In.{In}
use Rattle.fs_ident.specs.declared.actor.PathNo.{PathNo}
use Rattle.fs_ident.specs.declared.actor.TxnNo.{TxnNo}
use Rattle.fs_ident.specs.declared.kind.Kind.TheVariants.{Dir}
use Rattle.fs_ident.proofs.Passing.{found}
use Rattle.fs_field.specs.declared.path.PathAnswer.{PathAnswer}
use Rattle.fs_field.specs.declared.path.PathAnswer.TheVariants as answer
use Rattle.fs_map.specs.Map.{longest, server_of}
use Rattle.fs_msg.specs.declared.peer_msg.PeerMsg.TheVariants.{PathAsk, PathNo as Denied}
use Rattle.fs_path.specs.Tables.{frozen_for}
use Rattle.fs_record.specs.declared.led_end.Why.{Why}
use Rattle.fs_record.specs.declared.led_end.Why.TheVariants as why
use Rattle.fs_server.specs.Follows.{to_server}
use Rattle.fs_server.specs.Leads.{moved_why}
use Rattle.fs_server.specs.PathSteps.{answers_path, asks_above, asks_nobody, denies, has_child, path_here, unless_kept}
use Rattle.fs_server.specs.Server.{Stepped, is_mine}
use Rattle.fs_server.specs.declared.event.ServerEvent.{ServerEvent}
use Rattle.fs_server.specs.declared.event.ServerEvent.TheVariants.{FromPeer}
use Rattle.fs_server.specs.declared.state.Server.{Server}
use Rattle.fs_serial.specs.Cluster.{Cluster, InFlight, IsThere, after_step, in_flight_from, is_between, without_arrived}
use Rattle.fs_serial.specs.Fresh.{made}
use Rattle.fs_serial.specs.PathLaws.{after_path}
use Rattle.fs_serial.specs.Paths.{SaysPath}
use Rattle.fs_serial.proofs.Paths.Counting.{on_way, on_way_without}
use Rattle.fs_serial.proofs.Paths.Denied.{asks_on}
use Rattle.fs_serial.proofs.Paths.Issued.{gives_kept}
use Rattle.fs_serial.proofs.Paths.Tokens.{TokensKept, nothing_made}

-- the topmost file here, of which the path is to be asked farther up, was made as a directory
abbrev pub AsksOfDirectories : Cluster → Server → List ℕ → List ℕ → Type 0
AsksOfDirectories c s file dir =
    (top above : List ℕ) → is_mine s dir ≡ true → has_child s.records dir file ≡ true → frozen_for file s.paths.frozen ≡ None
    → path_here s dir ≡ answer.Wanted top above → made c.journal top ≡ Some Dir

module _ (c : Cluster) (k from : ℕ) (s : Server) (file dir : List ℕ) (t : TokensKept c) (at : slice_get c.servers k ≡ Some s)
    (there : IsThere k (FromPeer from (PathAsk file dir)) c) where
  abbrev e : ServerEvent
  e = FromPeer from (PathAsk file dir)

  abbrev f : InFlight
  f = record { from = from; to = k; message = PathAsk file dir }

  said : made c.journal file ≡ Some Dir
  said = t.says f (found (is_between from k) c.in_flight f there).0

  taken : (n : PathNo) → on_way n c.in_flight ≡ on_way n (without_arrived k e c.in_flight)
  taken n = let q = on_way_without n from k c.in_flight f there in omega (arith, q)

  -- ## It is denied

  denying : (w : Why) (g : InFlight) → In g (in_flight_from k (to_server from (Denied file w) ∷ []))
      → SaysPath (after_step k e (denies from file w s) c) g.from g.to g.message
  denying w g (inl q) = subst (λ (z : InFlight). SaysPath (after_step k e (denies from file w s) c) z.from z.to z.message) (sym q)
      (nothing_made c (after_step k e (denies from file w s) c) refl file said)
  denying w g (inr i) = absurd i

  denied : (w : Why) → TokensKept (after_step k e (denies from file w s) c)
  denied w = asks_on c k e s (denies from file w s) t at (record {
    me = refl;
    issued = refl;
    held = refl;
    given = refl;
    journal = nothing_made c (after_step k e (denies from file w s) c) refl;
    sent = denying w;
    brings = λ n. let q = taken n in omega (arith, q);
  })

  -- ## The topmost file is asked for

  module _ (top above : List ℕ) (dirs : made c.journal top ≡ Some Dir) where
    abbrev asks : Stepped
    asks = asks_above from file top above s

    up_say : (b : Bool) (g : InFlight) → In g (in_flight_from k (cond b [] (to_server (server_of s.map above) (PathAsk top above) ∷ [])))
        → SaysPath (after_step k e asks c) g.from g.to g.message
    up_say true g i = absurd i
    up_say false g (inl q) = subst (λ (z : InFlight). SaysPath (after_step k e asks c) z.from z.to z.message) (sym q)
        (nothing_made c (after_step k e asks c) refl top dirs)
    up_say false g (inr i) = absurd i

    both_say : (g : InFlight) → In g (in_flight_from k asks.out.send) → SaysPath (after_step k e asks c) g.from g.to g.message
    both_say g (inl q) = subst (λ (z : InFlight). SaysPath (after_step k e asks c) z.from z.to z.message) (sym q)
        (nothing_made c (after_step k e asks c) refl file said)
    both_say g (inr i) = up_say (asks_nobody top above s) g i

    up_brings : (n : PathNo) (b : Bool) → on_way n (in_flight_from k (cond b [] (to_server (server_of s.map above) (PathAsk top above) ∷ []))) ≡ 0
    up_brings n true = refl
    up_brings n false = refl

    asked_above : TokensKept (after_step k e asks c)
    asked_above = asks_on c k e s asks t at (record {
      me = refl;
      issued = refl;
      held = refl;
      given = refl;
      journal = nothing_made c (after_step k e asks c) refl;
      sent = both_say;
      brings = λ n. let q = taken n in let none = up_brings n (asks_nobody top above s) in omega (arith, q, none);
    })

  -- ## Either

  answered : (p : PathAnswer) → ((top above : List ℕ) → p ≡ answer.Wanted top above → made c.journal top ≡ Some Dir)
      → TokensKept (after_step k e (answers_path from file p s) c)
  answered (answer.Wanted top above) dirs = asked_above top above (dirs top above refl)
  answered (answer.Frozen g txn) dirs = denied (why.Frozen g txn)
  answered (answer.Path path) dirs = gives_kept c k from s file dir t at there path

  kept_or_not : (o : Option TxnNo) → (o ≡ None → (top above : List ℕ) → path_here s dir ≡ answer.Wanted top above → made c.journal top ≡ Some Dir)
      → TokensKept (after_step k e (unless_kept from file dir o s) c)
  kept_or_not (Some txn) dirs = denied (why.Frozen file txn)
  kept_or_not None dirs = answered (path_here s dir) (dirs refl)

  pub ask_kept : AsksOfDirectories c s file dir → TokensKept (after_path k from (PathAsk file dir) s c)
  ask_kept dirs = mine (is_mine s dir) refl
    where
      child : is_mine s dir ≡ true → (b : Bool) → has_child s.records dir file ≡ b
          → TokensKept (after_step k e (cond b (unless_kept from file dir (frozen_for file s.paths.frozen) s) (denies from file why.NoChild s)) c)
      child m true q = kept_or_not (frozen_for file s.paths.frozen) (λ free top above w. dirs top above m q free w)
      child m false q = denied why.NoChild

      mine : (b : Bool) → is_mine s dir ≡ b
          → TokensKept (after_step k e (cond b
          (cond (has_child s.records dir file) (unless_kept from file dir (frozen_for file s.paths.frozen) s) (denies from file why.NoChild s))
          (denies from file (moved_why (longest s.map dir)) s)) c)
      mine true q = child q (has_child s.records dir file) refl
      mine false q = denied (moved_why (longest s.map dir))
