-- A transaction that begins and ends in one event: all its parts are here.
use Rattle.std.proofs.Common.{◌≡◌, ◌==◌, ◌&&◌, ◌+◌, ℕ, Bool, true, false, not, List, []}
use Rattle.std.proofs.Common.{◌∷◌, ◌++◌, cond, length, map, refl, ap, ap₂, sym, ◌∙◌, inl, inr}
use Rattle.std.specs.Prelude.{Option, Some, None, is_some}
use Rattle.std.specs.List.{filter, find, flat_map}
use Rattle.std.proofs.lemmas.List.{append-nil, length-map}
use Rattle.fs_ident.proofs.Same.{itself}
use Rattle.fs_ident.specs.declared.actor.Peer.{Peer}
use Rattle.fs_ident.specs.declared.actor.Session.{Session}
use Rattle.fs_ident.specs.declared.actor.TxnNo.{TxnNo}
use Rattle.fs_field.specs.Table.{is_lock_of, same_txn, unlocked_row}
use Rattle.fs_field.specs.declared.effect.Effect.{Effect}
use Rattle.fs_field.specs.declared.path.PathAnswer.{PathAnswer}
use Rattle.fs_field.specs.declared.row.Row.{Row}
use Rattle.fs_field.specs.declared.used.Part.{Part}
use Rattle.fs_field.specs.declared.used.Use.{Use}
use Rattle.fs_msg.specs.declared.lead.Lead.{Lead}
use Rattle.fs_msg.specs.declared.answer.Answer.TheVariants as answer
use Rattle.fs_msg.specs.declared.msg.Msg.{Msg}
use Rattle.fs_msg.specs.declared.server_note.ServerNote.TheVariants as note
use Rattle.fs_record.specs.Applied.{records_after_all}
use Rattle.fs_record.specs.LedEffects.{led_effects}
use Rattle.fs_txn.specs.Deciding.{decision, effects_on, keeps_rows}
use Rattle.fs_txn.specs.Leading.{own_effects, said_yes, without_ending, yes_from}
use Rattle.fs_txn.specs.Locks.{rows_unlocked}
use Rattle.fs_txn.specs.Preparing.{is_used, row_locked, rows_locked}
use Rattle.fs_txn.specs.Votes.{Votes, is_full}
use Rattle.fs_txn.specs.declared.decision.Decision.{Decision}
use Rattle.fs_txn.specs.declared.decision.Decision.TheVariants.{Commit, Abort}
use Rattle.fs_txn.specs.declared.leading.Ending.{Ending}
use Rattle.fs_txn.specs.declared.leading.Leading.{Leading}
use Rattle.fs_txn.specs.declared.mode.Mode2.{Mode2}
use Rattle.fs_txn.proofs.Keys.{txn_is, txn_itself}
use Rattle.fs_txn.proofs.Locking.{locked}
use Rattle.fs_txn.proofs.Yeses.{commit_yes}
use Rattle.fs_server.specs.Begins.{Round, begins, begun_with, leader_with, parts_in, rounds, txn_of}
use Rattle.fs_server.specs.Concludes.{admitted_of, concludes, end_note, end_of_decision, ends_with, path_for, waits}
use Rattle.fs_server.specs.Follows.{vote_here}
use Rattle.fs_server.specs.Gathered.{gathered_by, keeping}
use Rattle.fs_server.specs.Laws.{BeginsIn, all_effects, concluded, has_all, recalls_here, votes_here}
use Rattle.fs_server.specs.LeadingLaws.{HasNextTxn, IsNewTxn}
use Rattle.fs_server.specs.Leads.{is_led, lead_step}
use Rattle.fs_server.specs.Server.{to_session}
use Rattle.fs_server.specs.declared.state.Server.{Server}
use Rattle.fs_server.proofs.Gathering.{all_gathered, all_own, files_kept, first_gathered, nothing_gathered, own_votes, uses_kept}
use Rattle.fs_server.proofs.Goes.{files_back}
use Rattle.fs_server.proofs.LeaderLaws.{abort_changes_none}
use Rattle.fs_server.proofs.Leading.{led_in_mode}
use Rattle.fs_server.proofs.Splitting.{commit_effects, picked, told_picked}

-- ## Rows that are locked and unlocked again

not_its : (txn : TxnNo) (o : Option TxnNo) → (o ≡ Some txn → ⊥) → is_lock_of txn o ≡ false
not_its txn None n = refl
not_its txn (Some t) n = at (same_txn t txn) refl
  where
    at : (b : Bool) → same_txn t txn ≡ b → b ≡ false
    at true e = absurd (n (ap Some (txn_is t txn e)))
    at false e = refl

row_back : (txn : TxnNo) (us : List Use) (r : Row) → (r.lock ≡ Some txn → ⊥) → unlocked_row txn (row_locked txn us r) ≡ r
row_back txn us r n = by (is_used us r) r.lock refl
  where
    stays : unlocked_row txn r ≡ r
    stays = ap (λ b. cond b (record r { lock = None }) r) (not_its txn r.lock n)

    by : (a : Bool) (o : Option TxnNo) → r.lock ≡ o → unlocked_row txn (cond (a && not (is_some o)) (locked txn r) r) ≡ r
    by true None e = ap (λ b. cond b (record r { lock = None }) (locked txn r)) (txn_itself txn)
        ∙ ap (λ (o : Option TxnNo). let x : Row = record r { lock = o } in x) (sym e)
    by true (Some t) e = stays
    by false o e = stays

rows_back : (txn : TxnNo) (us : List Use) (rows : List Row) → IsNewTxn txn rows → rows_unlocked txn (rows_locked txn us rows) ≡ rows
rows_back txn us [] n = refl
rows_back txn us (r ∷ rs) n = ap₂ (λ x xs. x ∷ xs) (row_back txn us r (n r (inl refl))) (rows_back txn us rs (λ x i. n x (inr i)))

-- ## Nothing is kept of it

none_left_out : {X : Type 0} (test : X → Bool) (xs : List X) → find test xs ≡ None → filter (λ x. not (test x)) xs ≡ xs
none_left_out test [] h = refl
none_left_out test (x ∷ xs) h = by (test x) (none_left_out test xs) h
  where
    by : (b : Bool) → (find test xs ≡ None → filter (λ x. not (test x)) xs ≡ xs) → cond b (Some x) (find test xs) ≡ None
        → cond (not b) (x ∷ filter (λ x. not (test x)) xs) (filter (λ x. not (test x)) xs) ≡ x ∷ xs
    by true rest h = absurd (cc h)
    by false rest h = ap (λ ys. x ∷ ys) (rest h)

-- ## All have voted, and all are here

all_full : (s : Server) (by : Session) (ps : List Part) → is_full (own_votes s by ps) ≡ true
all_full s by [] = refl
all_full s by (p ∷ ps) = all_full s by ps

none_elsewhere : (me first : ℕ) (votes : Votes) (ps : List Part)
    → filter (λ (x : ℕ × ℕ). not (x.1 == me)) (yes_from first votes (map (λ (p : Part). me) ps)) ≡ []
none_elsewhere me first [] ps = refl
none_elsewhere me first (v ∷ vs) [] = refl
none_elsewhere me first (v ∷ vs) (p ∷ ps) = by (said_yes v) (none_elsewhere me (first + 1) vs ps)
  where
    by : (b : Bool) → filter (λ (x : ℕ × ℕ). not (x.1 == me)) (yes_from (first + 1) vs (map (λ (p : Part). me) ps)) ≡ []
        → filter (λ (x : ℕ × ℕ). not (x.1 == me)) (cond b ((first, me) ∷ yes_from (first + 1) vs (map (λ (p : Part). me) ps))
        (yes_from (first + 1) vs (map (λ (p : Part). me) ps))) ≡ []
    by false rest = rest
    by true rest =
        ap (λ b. cond (not b) ((first, me) ∷ filter (λ (x : ℕ × ℕ). not (x.1 == me)) (yes_from (first + 1) vs (map (λ (p : Part). me) ps)))
        (filter (λ (x : ℕ × ℕ). not (x.1 == me)) (yes_from (first + 1) vs (map (λ (p : Part). me) ps)))) (itself me)
        ∙ rest

all_picked : (me : ℕ) (on : Part → List Effect) (ps : List Part)
    → picked (λ k. k == me) (map (λ (p : Part). me) ps) (map on ps) ≡ flat_map (λ (es : List Effect). es) (map on ps)
all_picked me on [] = refl
all_picked me on (p ∷ ps) =
    ap (λ b. cond b (on p ++ picked (λ k. k == me) (map (λ (p : Part). me) ps) (map on ps))
    (picked (λ k. k == me) (map (λ (p : Part). me) ps) (map on ps))) (itself me)
    ∙ ap (λ es. on p ++ es) (all_picked me on ps)

-- ## The transaction

never_kept : (b : Bool) (x y : List Row) → cond (b && false) x y ≡ y
never_kept true x y = refl
never_kept false x y = refl

module _ (mode : Mode2) (by : Session) (m : Lead) (s : Server) where
  abbrev votes : Votes
  votes = votes_here mode by m s

  abbrev used : List Use
  used = uses_kept s by (parts_in mode m)

  abbrev kept : List (List ℕ)
  kept = files_kept s by (parts_in mode m)

  abbrev back : List (Peer × Msg)
  back = recalls_here mode by m s

  abbrev its : Leading
  its = record { leader = leader_with mode (txn_of s) by m votes; at = map (λ (p : Part). s.me) (parts_in mode m) }

  -- as the event finds it
  abbrev path : Option PathAnswer
  path = path_for mode m.op s

  abbrev decided : Decision
  decided = decision its.leader path

  as_many_asked : length its.at ≡ length its.leader.votes
  as_many_asked = length-map (parts_in mode m) (λ (p : Part). s.me) ∙ sym (length-map (parts_in mode m) (λ (p : Part). Some (vote_here s by p)))

  -- all its effects are here
  effects_here : own_effects s.me its decided ≡ all_effects decided
  effects_here = at decided refl
    where
      at : (d : Decision) → decided ≡ d → own_effects s.me its d ≡ all_effects d
      at (Abort e) q = abort_changes_none s.me its e
      at (Commit r effects) q =
          let is : effects ≡ map (λ (p : Part). effects_on (led_effects m.op m.file r) p.file)
          (parts_in mode m) = commit_effects its.leader path r effects q in
          let as_many : length effects ≡ length its.leader.votes = ap length is
          ∙ length-map (parts_in mode m) (λ (p : Part). effects_on (led_effects m.op m.file r) p.file)
          ∙ sym (length-map (parts_in mode m) (λ (p : Part). Some (vote_here s by p))) in
          told_picked (λ k. k == s.me) r effects its (commit_yes its.leader path r effects q) as_many_asked as_many
          ∙ ap (picked (λ k. k == s.me) its.at) is
          ∙ all_picked s.me (λ (p : Part). effects_on (led_effects m.op m.file r) p.file) (parts_in mode m)
          ∙ ap (flat_map (λ (es : List Effect). es)) (sym is)

  gathered_here : has_all s (parts_in mode m) ≡ true → begins mode by m s
      ≡ begun_with mode by m (txn_of s) (gathered_by (all_own by (parts_in mode m) s nothing_gathered) (txn_of s) s) path
  gathered_here h = ap (λ (r : Round). begun_with mode by m (txn_of s) r path)
      (ap (rounds (txn_of s) 0 by (parts_in mode m)) (sym (first_gathered (txn_of s) s))
      ∙ all_gathered (txn_of s) 0 by (parts_in mode m) s nothing_gathered h)

  full_here : begun_with mode by m (txn_of s) (gathered_by (all_own by (parts_in mode m) s nothing_gathered) (txn_of s) s) path
      ≡ concludes its path back (keeping true (txn_of s) used kept s)
  full_here = ap (λ b. cond b (concludes its path back (keeping true (txn_of s) used kept s))
      (waits (note.Prepares (txn_of s)) its back (keeping true (txn_of s) used kept s))) (all_full s by (parts_in mode m))

  concluded_here : HasNextTxn s → concludes its path back (keeping true (txn_of s) used kept s) ≡ concluded decided mode by m s
  concluded_here n =
      ap (λ out. ends_with decided out its back (keeping true (txn_of s) used kept s)) (none_elsewhere s.me 0 votes (parts_in mode m))
      ∙ λ i. record {
        server = record s {
          txns = s.txns + 1;
          records = records_after_all s.records (effects_here i);
          rows = (never_kept (keeps_rows decided) (rows_locked (txn_of s) used s.rows)
              (rows_unlocked (txn_of s) (rows_locked (txn_of s) used s.rows)) ∙ rows_back (txn_of s) used s.rows n.rows) i;
          leading = none_left_out (λ (l : Leading). same_txn l.leader.txn (txn_of s)) s.leading n.leading i;
          ending = (append-nil (without_ending (txn_of s) s.ending)
              ∙ none_left_out (λ (x : Ending). same_txn x.txn (txn_of s)) s.ending n.ending) i;
          paths = record s.paths { frozen = files_back (txn_of s) kept s.paths.frozen i };
        };
        out = record {
          note = end_note (txn_of s) (end_of_decision decided);
          send = back ++ to_session by (answer.Led (end_of_decision decided)) ∷ [];
          admitted = admitted_of decided its.leader;
        };
      }

  decided_so : has_all s (parts_in mode m) ≡ true → HasNextTxn s → begins mode by m s ≡ concluded decided mode by m s
  decided_so h n = gathered_here h ∙ full_here ∙ concluded_here n

pub decided_here : (by : Session) (m : Lead) (mode : Mode2) (s : Server) → is_led m.op ≡ true → BeginsIn m s mode
    → has_all s (parts_in mode m) ≡ true → HasNextTxn s
    → lead_step by m s ≡ concluded (decision (leader_with mode (txn_of s) by m (votes_here mode by m s)) (path_for mode m.op s)) mode by m s
decided_here by m mode s l b h n = led_in_mode by m mode s l b ∙ decided_so mode by m s h n
