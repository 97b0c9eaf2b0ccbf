-- A transaction that the server leads goes on, waits, or is decided.
use Rattle.std.proofs.Common.{◌≡◌, ◌+◌, ◌<◌, ◌≤◌, ◌^◌, ℕ, Bool, true, false, not, List, [], ◌∷◌, ◌++◌, length, length-append, arith, refl, ap, ap₂, sym, ◌∙◌, subst, cond}
use Rattle.std.specs.Prelude.{Option}
use Rattle.std.specs.List.{filter, list_any}
use Rattle.std.proofs.lemmas.List.{length-map}
use Rattle.fs_ident.specs.Ident.{same}
use Rattle.fs_ident.specs.declared.actor.Peer.{Peer}
use Rattle.fs_ident.specs.declared.actor.TxnNo.{TxnNo}
use Rattle.fs_ident.proofs.Standing.{In-filter, In-more}
use Rattle.fs_field.specs.Table.{same_txn, unlocked_row}
use Rattle.fs_field.specs.declared.effect.Effect.{Effect}
use Rattle.fs_field.specs.declared.row.Row.{Row}
use Rattle.fs_field.specs.declared.used.Use.{Use}
use Rattle.fs_field.proofs.Leases.{unlocked_same}
use Rattle.fs_field.specs.declared.path.PathAnswer.{PathAnswer}
use Rattle.fs_model.specs.Asking.{home_of}
use Rattle.fs_msg.specs.declared.msg.Msg.{Msg}
use Rattle.fs_msg.specs.declared.server_note.ServerNote.{ServerNote}
use Rattle.fs_record.specs.Applied.{is_undoable, takes_away}
use Rattle.fs_record.specs.Records.{RecordMap}
use Rattle.fs_rows.specs.Given.{AreGiven}
use Rattle.fs_rows.proofs.Numbers.{given_map}
use Rattle.fs_txn.specs.Deciding.{decision}
use Rattle.fs_txn.specs.Leading.{AreWhole, IsWholeLeader, elsewhere, own_effects, with_leading, without_leading}
use Rattle.fs_txn.specs.Locks.{rows_unlocked}
use Rattle.fs_txn.specs.Parts.{led_files, part_at, source_of, with_file}
use Rattle.fs_txn.specs.Preparing.{row_locked, rows_locked}
use Rattle.fs_txn.specs.Votes.{is_full}
use Rattle.fs_txn.specs.declared.decision.Decision.{Decision}
use Rattle.fs_txn.specs.declared.leading.Ending.{Ending}
use Rattle.fs_txn.specs.declared.leading.Leading.{Leading}
use Rattle.fs_txn.proofs.Locking.{used_same}
use Rattle.fs_server.specs.Concludes.{concludes, end_of_decision, goes_on, keeps_for, waits}
use Rattle.fs_server.specs.Decided.{CanDecide, stepped_by}
use Rattle.fs_server.specs.Gathered.{CanGoOn, IsWhole, ends_by, keeping, told_by, waits_by}
use Rattle.fs_server.specs.Grants.{IsReady}
use Rattle.fs_server.specs.Plan.{CanChange, changed, changed_then}
use Rattle.fs_server.specs.Rows.{AreRows}
use Rattle.fs_server.specs.Server.{Stepped}
use Rattle.fs_server.specs.declared.change.Change.{Change}
use Rattle.fs_server.specs.declared.change.Change.TheVariants as change
use Rattle.fs_server.specs.declared.change.Then.TheVariants as rest
use Rattle.fs_server.specs.declared.decide.Decided.{Decided}
use Rattle.fs_server.specs.declared.out.ServerOut.{ServerOut}
use Rattle.fs_server.specs.declared.state.Server.{Server}
use Rattle.fs_server.proofs.Effects.{all_filtered}
use Rattle.fs_server.proofs.Kept.{leased_rows, with_tables}
use Rattle.fs_server.proofs.Owned.{own_order}

-- ## How many vote

one_more : (file : List ℕ) (files : List (List ℕ)) → length (with_file file files) ≤ length files + 1
one_more file files =
    elim (list_any (λ f. same f file) files) as (λ (b : Bool). length (cond b files (files ++ file ∷ [])) ≤ length files + 1) [
      | true ↦ omega arith
      | false ↦ let more = length-append files (file ∷ []) in omega (arith, more)
    ]

-- there are three parts at most
pub few_votes : (l : Leading) (uses : List Use) → IsWholeLeader l uses → length l.leader.votes < 2 ^ 8
few_votes l uses w =
    let o = l.leader.op in
    let first = one_more (source_of o) (home_of o ∷ []) in
    let second = one_more l.leader.file (with_file (source_of o) (home_of o ∷ [])) in
    let all = w.votes ∙ ap length w.parts ∙ length-map (led_files o l.leader.file) (part_at l.leader.mode o l.leader.file uses) in
    omega (arith, first, second, all)

-- ## What it keeps

-- rows are locked, or unlocked, and stay in order
locked_rows : (txn : TxnNo) (uses : List Use) (s : Server) → IsReady s → AreRows (rows_locked txn uses s.rows)
locked_rows txn uses s r = leased_rows (row_locked txn uses) (used_same txn uses) s.rows r.table

locked_given : (txn : TxnNo) (uses : List Use) (s : Server) → IsReady s → AreGiven s.me s.given (rows_locked txn uses s.rows)
locked_given txn uses s r = given_map s.me s.given (row_locked txn uses) (used_same txn uses) s.rows r.server.numbers

-- the count of a transaction that begins
counted : (begins : Bool) (txns : ℕ) → txns < 2 ^ 64 → (begins ≡ true → txns + 1 < 2 ^ 64) → cond begins (txns + 1) txns < 2 ^ 64
counted true txns h few = few refl
counted false txns h few = h

pub keeping_ready : (begins : Bool) (txn : TxnNo) (uses : List Use) (files : List (List ℕ)) (s : Server) → IsReady s
    → (begins ≡ true → s.txns + 1 < 2 ^ 64) → IsReady (keeping begins txn uses files s)
keeping_ready begins txn uses files s r few = record {
  server = record {
    few = r.server.few;
    skew = r.server.skew;
    term = r.server.term;
    last = r.server.last;
    given = r.server.given;
    reaps = r.server.reaps;
    txns = counted begins s.txns r.server.txns few;
    paths = r.server.paths;
    numbers = locked_given txn uses s r;
    whole = r.server.whole;
  };
  table = locked_rows txn uses s r;
}

-- the server with other records, other rows, each with a number that it gave, and other transactions
pub with_led : (s : Server) (records : RecordMap) (rows : List Row) (leading : List Leading) (ending : List Ending) → IsReady s → AreGiven s.me s.given rows
    → AreRows rows → AreWhole leading → IsReady (record s { records = records; rows = rows; leading = leading; ending = ending })
with_led s records rows leading ending r n t w = record {
  server = record {
    few = r.server.few;
    skew = r.server.skew;
    term = r.server.term;
    last = r.server.last;
    given = r.server.given;
    reaps = r.server.reaps;
    txns = r.server.txns;
    paths = r.server.paths;
    numbers = n;
    whole = w;
  };
  table = t;
}

-- where its rows are unlocked or stay locked
unlocked_rows : (keeps : Bool) (txn : TxnNo) (rows : List Row) → AreRows rows → AreRows (cond keeps rows (rows_unlocked txn rows))
unlocked_rows true txn rows t = t
unlocked_rows false txn rows t = leased_rows (unlocked_row txn) (unlocked_same txn) rows t

unlocked_given : (me given : ℕ) (keeps : Bool) (txn : TxnNo) (rows : List Row) → AreGiven me given rows
    → AreGiven me given (cond keeps rows (rows_unlocked txn rows))
unlocked_given me given true txn rows n = n
unlocked_given me given false txn rows n = given_map me given (unlocked_row txn) (unlocked_same txn) rows n

fewer_whole : (txn : TxnNo) (leading : List Leading) → AreWhole leading → AreWhole (without_leading txn leading)
fewer_whole txn leading w l i = w l (In-filter (λ (x : Leading). not (same_txn x.leader.txn txn)) l leading i)

more_whole : (l : Leading) (leading : List Leading) → IsWhole l → AreWhole leading → AreWhole (with_leading l leading)
more_whole l leading one w x i = In-more x (without_leading l.leader.txn leading) l (IsWhole x) (fewer_whole l.leader.txn leading w x) (λ q. subst IsWhole (sym q) one) i

pub waits_ready : (l : Leading) (s : Server) → IsReady s → IsWhole l → IsReady (record s { leading = with_leading l s.leading })
waits_ready l s r w = with_led s s.records s.rows (with_leading l s.leading) s.ending r r.server.numbers r.table (more_whole l s.leading w r.server.whole)

ends_ready : (effects removals : List Effect) (x : Ending) (keeps : Bool) (txn : TxnNo) (s : Server) → IsReady s → IsReady (changed_then (rest.Ends effects removals x keeps) txn s)
ends_ready effects removals x keeps txn s r =
    let t : Server = changed_then (rest.Ends effects removals x keeps) txn s in
    with_tables (record s { records = t.records; rows = t.rows; leading = t.leading; ending = t.ending }) t.paths
    (with_led s t.records t.rows t.leading t.ending r (unlocked_given s.me s.given keeps txn s.rows r.server.numbers)
    (unlocked_rows keeps txn s.rows r.table) (fewer_whole txn s.leading r.server.whole))

-- ## Decided

abbrev stepped : Server → ServerOut → Stepped
stepped t o = record { server = t; out = o }

pub concludes_so : (begins : Bool) (l : Leading) (uses : List Use) (files : List (List ℕ)) (send : List (Peer × Msg)) (s : Server) (d : Decided)
    (w : Decision) (others : List (ℕ × ℕ)) (path : Option PathAnswer) → CanGoOn begins l s → w ≡ decision l.leader path → others ≡ elsewhere s.me l
    → d.change ≡ change.Lead begins l.leader.txn uses files (ends_by s.me l w others) → d.out ≡ told_by w others l.leader send
    → stepped_by d s ≡ concludes l path send (keeping begins l.leader.txn uses files s)
concludes_so begins l uses files send s d w others path can is_decision is_elsewhere ch out =
    let k : Server = keeping begins l.leader.txn uses files s in
    let e : Decision = decision l.leader path in
    let all : ServerOut → Change → Stepped = λ o c. stepped (changed c s) o in
    ap₂ all out ch
    ∙ ap₂ (λ (v : Decision) (ys : List (ℕ × ℕ)). all (told_by v ys l.leader send) (change.Lead begins l.leader.txn uses files (ends_by s.me l v ys))) is_decision is_elsewhere
    ∙ ap (λ (records : RecordMap). stepped (record ((concludes l path send k).server) { records = records }) ((concludes l path send k).out))
    (own_order s.records s.me l can.uses path can.whole)

pub concludes_can : (begins : Bool) (l : Leading) (uses : List Use) (files : List (List ℕ)) (s : Server) (d : Decided) (w : Decision)
    (others : List (ℕ × ℕ)) → IsReady s → CanGoOn begins l s → d.change ≡ change.Lead begins l.leader.txn uses files (ends_by s.me l w others)
    → CanDecide d s
concludes_can begins l uses files s d w others r can ch =
    let es : List Effect = own_effects s.me l w in
    record {
      change = subst (λ c. CanChange c s) (sym ch) (all_filtered is_undoable es, all_filtered takes_away es);
      ready = subst (λ c. IsReady (changed c s)) (sym ch)
          (ends_ready (filter is_undoable es) (filter takes_away es) (record { txn = l.leader.txn; session = l.leader.session; end = end_of_decision w; awaits = others }) (keeps_for w others)
          l.leader.txn (keeping begins l.leader.txn uses files s) (keeping_ready begins l.leader.txn uses files s r can.few));
    }

-- ## Not decided yet

pub waits_so : (begins : Bool) (n : ServerNote) (l : Leading) (uses : List Use) (files : List (List ℕ)) (send : List (Peer × Msg)) (s : Server) (d : Decided)
    → d ≡ waits_by begins n l uses files send → stepped_by d s ≡ waits n l send (keeping begins l.leader.txn uses files s)
waits_so begins n l uses files send s d h = ap (λ (x : Decided). stepped_by x s) h

pub waits_can : (begins : Bool) (n : ServerNote) (l : Leading) (uses : List Use) (files : List (List ℕ)) (send : List (Peer × Msg)) (s : Server) (d : Decided)
    → IsReady s → IsWhole l → (begins ≡ true → s.txns + 1 < 2 ^ 64) → d ≡ waits_by begins n l uses files send → CanDecide d s
waits_can begins n l uses files send s d r w few h = subst (λ (x : Decided). CanDecide x s) (sym h) (record {
  change = tt;
  ready = waits_ready l (keeping begins l.leader.txn uses files s) (keeping_ready begins l.leader.txn uses files s r few) w;
})

-- ## It goes on

pub goes_full : (n : ServerNote) (l : Leading) (path : Option PathAnswer) (send : List (Peer × Msg)) (s : Server) → is_full l.leader.votes ≡ true
    → concludes l path send s ≡ goes_on n l path send s
goes_full n l path send s h = sym (ap (λ b. cond b (concludes l path send s) (waits n l send s)) h)

pub goes_waiting : (n : ServerNote) (l : Leading) (path : Option PathAnswer) (send : List (Peer × Msg)) (s : Server) → is_full l.leader.votes ≡ false
    → waits n l send s ≡ goes_on n l path send s
goes_waiting n l path send s h = sym (ap (λ b. cond b (concludes l path send s) (waits n l send s)) h)
