-- A part applies what it is told, or a leader is told that a part is done: all servers keep what they have to keep.
use Rattle.std.proofs.Common.{◌≡◌, ℕ, not, List, [], ◌∷◌, refl, sym, subst, inl}
use Rattle.std.specs.Prelude.{Some, slice_get}
use Rattle.fs_ident.specs.In.{In}
use Rattle.fs_ident.proofs.Standing.{In-filter, In-got}
use Rattle.fs_msg.specs.declared.decide.Decide.{Decide as DecideMsg}
use Rattle.fs_msg.specs.declared.done.Done.{Done as DoneMsg}
use Rattle.fs_msg.specs.declared.peer_msg.PeerMsg.TheVariants as peer
use Rattle.fs_server.specs.Counts.{done_step, done_with}
use Rattle.fs_server.specs.Follows.{after_decision, applies, decide_step}
use Rattle.fs_server.specs.Server.{Stepped}
use Rattle.fs_server.specs.declared.event.ServerEvent.{ServerEvent}
use Rattle.fs_server.specs.declared.event.ServerEvent.TheVariants as event
use Rattle.fs_server.specs.declared.state.Server.{Server}
use Rattle.fs_txn.specs.Grants.{Decided, effects_in}
use Rattle.fs_txn.specs.Leading.{ending_of, without_done}
use Rattle.fs_txn.specs.Locks.{Agreed}
use Rattle.fs_txn.specs.Ready.{is_awaited, is_part}
use Rattle.fs_txn.specs.Stages.{same_key}
use Rattle.fs_txn.specs.declared.leading.Ending.{Ending}
use Rattle.fs_txn.specs.declared.ready.Ready.{Ready}
use Rattle.fs_serial.specs.Cluster.{Cluster, InFlight, IsThere, after_step, is_between}
use Rattle.fs_serial.specs.KeptFiles.{FilesKept, KeepsFiles}
use Rattle.fs_serial.specs.Leading.{LedHolds}
use Rattle.fs_serial.specs.Runs.{records_in}
use Rattle.fs_serial.specs.Seen.{ClusterHolds, world_of}
use Rattle.fs_serial.specs.Words.{decided_in, key_of, said_at}
use Rattle.fs_serial.proofs.DecidedEffects.Applying.{apart}
use Rattle.fs_serial.proofs.DecidedEffects.DecideSeen.{before, behind, its, left_before, own, records_then, whole}
use Rattle.fs_serial.proofs.Paths.KeptAfter.{kept_after, modes_still, tells_still}
use Rattle.fs_serial.proofs.Paths.KeptHere.{keeps_alike, keeps_left}
use Rattle.fs_serial.proofs.Lists.Journals.{made_kept}
use Rattle.fs_serial.proofs.Paths.KeptPlaces.{PlaceLeft, apart_left}
use Rattle.fs_serial.proofs.Paths.KeptQuiet.{led_still, quiet_keeps}
use Rattle.fs_serial.proofs.Transactions.AwaitedWords.{IsAwaitedBy, decide_awaited, done_awaited, done_is}
use Rattle.fs_serial.proofs.Transactions.LedDecided.{led_decided, own_others, said_then, told_before}
use Rattle.fs_serial.proofs.Transactions.PlacesAfter.{word_taken}
use Rattle.fs_serial.proofs.WholeRuns.LedKept.{all_keep_led}

module _ (skew greatest k : ℕ) (c : Cluster) (s : Server) (at : slice_get c.servers k ≡ Some s) (h : ClusterHolds skew greatest c)
    (f : FilesKept c) (from : ℕ) where
  abbrev here : In s c.servers
  here = In-got c.servers k s at

  me : s.me ≡ k
  me = h.places.numbered k s at

  -- ## What was decided comes

  module _ (m : DecideMsg) (comes : IsThere k (event.FromPeer from (peer.Decide m)) c) where
    abbrev decides : ServerEvent
    decides = event.FromPeer from (peer.Decide m)

    abbrev t : Server
    t = after_decision m s

    abbrev after : Cluster
    after = after_step k decides (applies from m s) c

    applied_here : KeepsFiles t
    applied_here =
        keeps_left s t m.txn (is_awaited m.txn t.prepared) refl (f.here s here) refl
        (λ y i. In-filter (λ (z : Agreed). not (same_key z.key (key_of m.txn m.number))) y (said_at s)
        (subst (In y) (sym (said_then k from c s at h.led me m comes)) i))
        (own_others k from c s at h.led me m comes)

    -- what is left is apart from what was applied
    places_left : (d : Decided) → In d (decided_in after) → PlaceLeft (records_in c) (records_in after) d.effect
    places_left d i =
        subst (λ n. PlaceLeft (records_in c) n d.effect) (sym (records_then k from skew greatest c s at h m comes))
        (apart_left (records_in c) d.effect (effects_in (its k from skew greatest c s at h m comes))
        (λ e j. apart greatest (world_of s c) (before k from skew greatest c s at h m comes) (its k from skew greatest c s at h m comes)
        (behind k from skew greatest c s at h m comes) (whole k from skew greatest c s at h m comes)
        (own k from skew greatest c s at h m comes)
        (h.parts s here) d (left_before k from skew greatest c s at h m comes d i) e j))

    applied_kept : FilesKept after
    applied_kept = kept_after k s t c after at f (record {
      servers = refl;
      here = applied_here;
      prepared = λ y i. inl (In-filter (λ (z : Ready). not (is_part m.txn m.number z)) y s.prepared i);
      told = tells_still c after f (led_decided k from c s at h.led me m comes) (told_before k from c s at h.led me m comes) places_left
          (made_kept c.journal []);
      clients = led_still k c s at decides (applies from m s);
      modes = modes_still c s t here f refl;
    })

    pub decide_kept : FilesKept (after_step k decides (decide_step from m s) c)
    decide_kept =
        subst (λ (x : Stepped). FilesKept (after_step k decides x c)) (sym (decide_awaited k from c s at h.led m comes)) applied_kept

  -- ## A part is done

  module _ (m : DoneMsg) (comes : IsThere k (event.FromPeer from (peer.Done m)) c) where
    abbrev done : ServerEvent
    done = event.FromPeer from (peer.Done m)

    abbrev word : InFlight
    word = record { from = from; to = k; message = peer.Done m }

    abbrev q : IsAwaitedBy m.number (ending_of m.txn s.ending) from
    q = done_awaited k from c s at h.led m comes

    abbrev z : Ending
    z = without_done m.number q.ending

    waits_or_ends : (o : List (ℕ × ℕ)) → done_step m s ≡ done_with z o s → FilesKept (after_step k done (done_with z o s) c)
    waits_or_ends [] is = quiet_keeps k c s at done (done_with z [] s) f (record {
      led = subst (λ (x : Stepped). LedHolds (after_step k done x c)) is ((all_keep_led skew greatest k c s at h).done from m comes);
      records = refl;
      taken = word_taken (is_between from k) c.in_flight word comes refl;
      hands = refl;
      tells = λ key place effects i. i;
      here = keeps_alike s (done_with z [] s).server (f.here s here) refl refl;
      prepared = λ y i. inl i;
      modes = modes_still c s (done_with z [] s).server here f refl;
    })
    waits_or_ends (n ∷ ns) is = quiet_keeps k c s at done (done_with z (n ∷ ns) s) f (record {
      led = subst (λ (x : Stepped). LedHolds (after_step k done x c)) is ((all_keep_led skew greatest k c s at h).done from m comes);
      records = refl;
      taken = word_taken (is_between from k) c.in_flight word comes refl;
      hands = refl;
      tells = λ key place effects i. i;
      here = keeps_alike s (done_with z (n ∷ ns) s).server (f.here s here) refl refl;
      prepared = λ y i. inl i;
      modes = modes_still c s (done_with z (n ∷ ns) s).server here f refl;
    })

    pub done_kept : FilesKept (after_step k done (done_step m s) c)
    done_kept =
        let is : done_step m s ≡ done_with z z.awaits s = done_is k from c s at h.led m q in
        subst (λ (x : Stepped). FilesKept (after_step k done x c)) (sym is) (waits_or_ends z.awaits is)
