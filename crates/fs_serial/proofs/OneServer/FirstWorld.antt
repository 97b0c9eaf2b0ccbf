-- All that holds holds at the start.
use Rattle.std.proofs.Common.{◌≡◌, ℕ, ◌+◌, ◌≤◌, ◌==◌, Bool, true, false, List, [], ◌∷◌, ◌++◌, cond, refl, sym, ap, ◌∙◌, subst, arith}
use Rattle.std.specs.Prelude.{Option, Some, None}
use Rattle.std.specs.Ordering.{nat_cmp, eq_by_cmp}
use Rattle.std.specs.Cmp.Lexicographic.{slice_cmp, nat_list_cmp_total}
use Rattle.std.specs.FinMap.{empty, get, get-empty, get-insert, same_map}
use Rattle.fs_ident.specs.Ident.{child}
use Rattle.fs_ident.specs.In.{In}
use Rattle.fs_ident.specs.declared.actor.Session.{Session}
use Rattle.fs_ident.specs.declared.kind.Kind.{Kind}
use Rattle.fs_ident.proofs.MapsOf.{anti}
use Rattle.fs_field.specs.declared.row.Row.{Row}
use Rattle.fs_model.specs.Namespace.{first_space, root_node}
use Rattle.fs_model.specs.Sound.{IsSound, kind_of}
use Rattle.fs_model.proofs.SoundRuns.{first_sound}
use Rattle.fs_record.specs.declared.record.Record.{Record}
use Rattle.fs_record.specs.Records.{RecordMap, first_records, node_of, nodes_of, root_record}
use Rattle.fs_record.proofs.Kept.{kept_empty, kept_insert, root_kept}
use Rattle.fs_record.proofs.NodeMaps.{node_there}
use Rattle.fs_record.proofs.NodeValues.{key_is}
use Rattle.fs_server.specs.declared.state.Server.{Server}
use Rattle.fs_serial.specs.Fresh.{ByLease, ByLog, Claim, FreshReserved, IsAtOrBelow, IsMade, NodesMade, Reserves, made, reserved_by}
use Rattle.fs_serial.specs.Parts.{ServersFit, ServersHold, SessionHolds, SessionFits}
use Rattle.fs_serial.specs.Numbers.{ReapsInOrder}
use Rattle.fs_serial.specs.Serial.{AreSound, JournalSerial}
use Rattle.fs_serial.specs.Sight.{Counts, Sight, sight_of}
use Rattle.fs_serial.specs.World.{World, WorldHolds, first_ends, settled_at}

abbrev records : RecordMap
records = first_records true

-- ## The records

chosen : (b : Bool) (o : Option Record) → o ≡ None → node_of (cond b (Some root_record) o) ≡ cond b (Some root_node) None
chosen true o e = refl
chosen false o e = ap node_of e

node_at : (q : List ℕ) → node_of (get records q) ≡ cond (eq_by_cmp (slice_cmp nat_cmp) q []) (Some root_node) None
node_at q = ap node_of (get-insert nat_list_cmp_total empty [] root_record q) ∙ chosen (eq_by_cmp (slice_cmp nat_cmp) q []) (get empty q) (get-empty (slice_cmp nat_cmp) q)

space_at : (q : List ℕ) → get first_space q ≡ cond (eq_by_cmp (slice_cmp nat_cmp) q []) (Some root_node) None
space_at q = get-insert nat_list_cmp_total empty [] root_node q ∙ ap (cond (eq_by_cmp (slice_cmp nat_cmp) q []) (Some root_node)) (get-empty (slice_cmp nat_cmp) q)

first_nodes : nodes_of records ≡ first_space
first_nodes = same_map nat_list_cmp_total anti _ _ (λ q. node_there records q ∙ node_at q ∙ sym (space_at q))

first_are_sound : AreSound records
first_are_sound = record { space = subst IsSound (sym first_nodes) first_sound; records = kept_insert empty [] root_record kept_empty root_kept }

root_made : (q : List ℕ) (kind : Kind) (b : Bool) → eq_by_cmp (slice_cmp nat_cmp) q [] ≡ b → kind_of (cond b (Some root_node) None) ≡ Some kind → made [] q ≡ Some kind
root_made q kind true t h = ap (made []) (key_is q [] t) ∙ h
root_made q kind false t h = absurd (cc)

first_made : NodesMade records []
first_made q kind h = root_made q kind (eq_by_cmp (slice_cmp nat_cmp) q []) refl (ap kind_of (sym (node_at q)) ∙ h)

-- nothing is made below a directory
not_below : (dir : List ℕ) (k : ℕ) (j : List ℕ) → IsMade [] j → IsAtOrBelow (child dir k) j → ⊥
not_below [] k [] h p = let e : [] ≡ k ∷ p.0 = p.1 in absurd (cc)
not_below (d ∷ dir) k [] h p = let e : [] ≡ d ∷ (child dir k ++ p.0) = p.1 in absurd (cc)
not_below dir k (n ∷ ns) h p = absurd (cc)

-- ## The world

none_counted : (b : Bool) (n m : ℕ) → n ≡ 0 → m ≡ 0 → 1 ≡ cond b n m + 1
none_counted true n m e f = omega arith
none_counted false n m e f = omega arith

module _ (greatest term : ℕ) (s : Server) (o : Counts) (no_rows : s.rows ≡ []) (first : s.records ≡ records) (no_reaps : s.reaps ≡ 0) (others : (k : ℕ) → o.reaps k ≡ 0) where
  abbrev w : World
  w = record { server = s; counts = o; decided = []; journal = []; replied = λ x. []; ends = first_ends term }

  abbrev sight : Sight
  sight = sight_of o s []

  none : (r : Row) → In r s.rows → ⊥
  none r i = subst (In r) no_rows i

  first_reaped : ReapsInOrder sight.reaps []
  first_reaped k = none_counted (k == s.me) s.reaps (o.reaps k) no_reaps (others k)

  first_servers : ServersHold sight
  first_servers = record {
    apart = λ a b i j. absurd (none a i);
    promises = λ r i. absurd (none r i);
    serial = subst (λ m. JournalSerial [] m) (sym first) (sym first_nodes);
    reaped = first_reaped;
  }

  first_kept : ServersFit sight
  first_kept = record {
    shaped = λ r i. absurd (none r i);
    counted = λ r i. absurd (none r i);
    given = λ r i. absurd (none r i);
    sound = subst AreSound (sym first) first_are_sound;
    made = subst (λ m. NodesMade m []) (sym first) first_made;
  }

  none_claimed : (x : Session) (n : Claim) (i : List ℕ) → Reserves (settled_at x (w.ends x)) n i → ⊥
  none_claimed x (ByLease n) i r = r.held
  none_claimed x ByLog i r = r.among

  first_reserved : FreshReserved (reserved_by (λ x. settled_at x (w.ends x))) s.records []
  first_reserved = record {
    once = λ x y n k i j r t b. absurd (none_claimed x n i r);
    unmade = λ x n i j r made b. none_claimed x n i r;
    made_before = λ dir k j here free made b. not_below dir k j made b;
    reserved_before = λ dir k x n j here free r b. none_claimed x n j r;
  }

  first_session : (x : Session) → SessionHolds s.skew greatest sight x [] (settled_at x (w.ends x))
  first_session x = record { backed = λ l i late. absurd i; telling = λ l i r j e. absurd i; pending = tt; numbers = refl; replies = refl }

  first_fits : (x : Session) → SessionFits s.skew greatest sight x (settled_at x (w.ends x))
  first_fits x = record {
    given = λ l i. absurd i;
    distinct = λ l m i j e. absurd i;
    matching = λ l i r j e. absurd i;
    fresh = λ l i dir e. absurd i;
    lives = λ l i file e. absurd i;
    held = λ e i u j. absurd i;
    backed = λ e i u j late. absurd i;
    entries = λ e i. absurd i;
    once = tt;
    refused = λ n e. absurd (cc);
    led = tt;
  }

  pub first_holds : s.last ≤ greatest → WorldHolds greatest w
  first_holds clock = record {
    all = record { servers = first_servers; kept = first_kept; sessions = first_session; fitting = first_fits; reserved = first_reserved };
    clock = clock;
    clients = λ x. record { session = refl; viewed = refl; pending = refl; distinct = λ k l i j e. absurd i; pinned = λ k i. absurd i; held = λ e i u j. absurd i };
    exchanges = λ x. record {
      one = (refl, refl);
      ships = tt;
      front = λ entries i. absurd i;
      leads = λ m i. absurd i;
      released = tt;
      kinds = λ items fresh i. absurd i;
      pairs = λ m i. absurd i;
      returns = λ k i leaving. absurd i;
      renewals = λ ends e i. absurd i;
    };
  }
