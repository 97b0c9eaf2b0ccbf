-- Servers where path leases, questions for paths or their numbers are others, and what an answer to such a question is.
use Rattle.std.proofs.Common.{◌≡◌, ◌∙◌, ℕ, ◌+◌, ◌-◌, suc, ◌<◌, ◌≤◌, ◌^◌, Bool, true, false, List, [], ◌∷◌, ◌++◌, refl, ap, sym, cond, nat_le, nat_lt, length, get_or, arith}
use Rattle.std.specs.Prelude.{Some, None}
use Rattle.std.proofs.lemmas.Bool.Decides.{nat_tests}
use Rattle.fs_ident.specs.declared.actor.PathNo.{PathNo}
use Rattle.fs_msg.specs.declared.core_error.Counter.TheVariants.{Leases, Reaps, Transactions, Paths}
use Rattle.fs_msg.specs.declared.peer_msg.PeerMsg.TheVariants as peer
use Rattle.fs_msg.specs.declared.server_note.ServerNote.TheVariants as note
use Rattle.fs_path.specs.Numbers.{next_path}
use Rattle.fs_path.specs.Tables.{PathTables}
use Rattle.fs_server.specs.Decided.{CanDecide, stepped_by}
use Rattle.fs_server.specs.Follows.{to_server}
use Rattle.fs_server.specs.Grants.{IsReady}
use Rattle.fs_server.specs.PathSteps.{gives_path, last_dir, lease_to, path_number, sends, with_path}
use Rattle.fs_server.specs.Step.{counter_over}
use Rattle.fs_server.specs.declared.change.Change.TheVariants.{Paths as ChangePaths}
use Rattle.fs_server.specs.declared.out.ServerOut.{ServerOut}
use Rattle.fs_server.specs.declared.path_change.PathChange.TheVariants.{Ask, Stop, Give, Keep}
use Rattle.fs_server.specs.declared.state.Server.{Server}

-- ## The server goes on

-- the server with other path leases, other questions for paths and another number of them
pub with_path_tables : (s : Server) (paths : PathTables) (asking : List (List ℕ)) (given : ℕ) → given < 2 ^ 64 → IsReady s → IsReady (record s { paths = paths; asking = asking; paths_given = given })
with_path_tables s paths asking given few r = record {
  server = record { few = r.server.few; skew = r.server.skew; term = r.server.term; last = r.server.last; given = r.server.given; reaps = r.server.reaps; txns = r.server.txns; paths = few; numbers = r.server.numbers; whole = r.server.whole };
  table = r.table;
}

-- a path is asked for
pub asks_can : (file : List ℕ) (out : ServerOut) (s : Server) → IsReady s → CanDecide (record { change = ChangePaths (Ask file); out = out }) s
asks_can file out s r = record { change = tt; ready = with_path_tables s _ _ s.paths_given r.server.paths r }

-- none is awaited any more
pub stops_can : (file : List ℕ) (out : ServerOut) (s : Server) → IsReady s → CanDecide (record { change = ChangePaths (Stop file); out = out }) s
stops_can file out s r = record { change = tt; ready = with_path_tables s _ _ s.paths_given r.server.paths r }

-- one that came is kept
pub keeps_can : (from : ℕ) (number : PathNo) (file : List ℕ) (path : List (List ℕ)) (out : ServerOut) (s : Server) → IsReady s → CanDecide (record { change = ChangePaths (Keep from number file path); out = out }) s
keeps_can from number file path out s r = record { change = tt; ready = with_path_tables s _ _ s.paths_given r.server.paths r }

-- ## The next number

is_next_path : (s : Server) (number : PathNo) → next_path s.me s.paths_given ≡ Some number → number ≡ path_number s
is_next_path s number h = by (nat_lt s.paths_given 0xffff_ffff_ffff_ffff) h
  where
    by : (b : Bool) → cond b (Some (path_number s)) None ≡ Some number → number ≡ path_number s
    by true e = let q : path_number s ≡ number = cc in sym q
    by false e = absurd (cc)

few_paths : (s : Server) (number : PathNo) → next_path s.me s.paths_given ≡ Some number → s.paths_given + 1 < 2 ^ 64
few_paths s number h = by (nat_lt s.paths_given 0xffff_ffff_ffff_ffff) refl h
  where
    by : (b : Bool) → nat_lt s.paths_given 0xffff_ffff_ffff_ffff ≡ b → cond b (Some (path_number s)) None ≡ Some number → s.paths_given + 1 < 2 ^ 64
    by true t e = grind (arith, nat_tests)
    by false t e = absurd (cc)

-- the path is given out with it
pub gives_can : (to : ℕ) (file : List ℕ) (above : List (List ℕ)) (number : PathNo) (out : ServerOut) (s : Server) → next_path s.me s.paths_given ≡ Some number → IsReady s → CanDecide (record { change = ChangePaths (Give to file above); out = out }) s
gives_can to file above number out s next r = record { change = tt; ready = with_path_tables s _ _ (s.paths_given + 1) (few_paths s number next) r }

pub gives_so : (to : ℕ) (file : List ℕ) (above : List (List ℕ)) (number : PathNo) (f : List ℕ) (out : ServerOut) (s : Server) → next_path s.me s.paths_given ≡ Some number → f ≡ file
    → out ≡ record { note = note.PathGrants number; send = to_server to (peer.PathGrant number file (above ++ file ∷ [])) ∷ []; admitted = [] }
    → stepped_by (record { change = ChangePaths (Give to f above); out = out }) s ≡ gives_path to file above s
gives_so to file above number f out s next same o =
    (λ i. record { server = with_path (lease_to to (same i) above s) s; out = o i })
    ∙ ap (λ n. sends (note.PathGrants n) (to_server to (peer.PathGrant n file (above ++ file ∷ [])) ∷ []) (with_path (lease_to to file above s) s)) (is_next_path s number next)

-- no number is left for it
paths_over : (given reaps txns paths : ℕ) → given < 2 ^ 64 → reaps < 2 ^ 64 → txns < 2 ^ 64 → nat_lt paths 0xffff_ffff_ffff_ffff ≡ false
    → cond (nat_le (2 ^ 64) given) (Some Leases) (cond (nat_le (2 ^ 64) reaps) (Some Reaps) (cond (nat_le (2 ^ 64) txns) (Some Transactions) (cond (nat_le (2 ^ 64) (paths + 1)) (Some Paths) None))) ≡ Some Paths
paths_over given reaps txns paths g r t p = grind (arith, nat_tests)

no_more : (s : Server) → next_path s.me s.paths_given ≡ None → nat_lt s.paths_given 0xffff_ffff_ffff_ffff ≡ false
no_more s h = by (nat_lt s.paths_given 0xffff_ffff_ffff_ffff) h
  where
    by : (b : Bool) → cond b (Some (path_number s)) None ≡ None → b ≡ false
    by true e = absurd (cc)
    by false e = refl

pub gives_spent : (to : ℕ) (file : List ℕ) (above : List (List ℕ)) (s : Server) → IsReady s → next_path s.me s.paths_given ≡ None → counter_over (gives_path to file above s).server ≡ Some Paths
gives_spent to file above s r h = paths_over s.given s.reaps s.txns s.paths_given r.server.given r.server.reaps r.server.txns (no_more s h)

-- ## The last directory on a path

pub last_dir_at : (path : List (List ℕ)) (d : List ℕ) → 2 ≤ length path → d ≡ get_or path (length path - 2) d → Some d ≡ last_dir path
last_dir_at [] d two is = absurd (omega (arith, two))
last_dir_at (a ∷ []) d two is = absurd (omega (arith, two))
last_dir_at (a ∷ b ∷ []) d two is = ap Some is
last_dir_at (a ∷ b ∷ e ∷ es) d two is =
    let at : length (a ∷ b ∷ e ∷ es) - 2 ≡ suc (length (b ∷ e ∷ es) - 2) = omega arith in
    last_dir_at (b ∷ e ∷ es) d (omega arith) (is ∙ ap (λ i. get_or (a ∷ b ∷ e ∷ es) i d) at)

pub no_last_dir : (path : List (List ℕ)) → length path < 2 → None ≡ last_dir path
no_last_dir [] few = refl
no_last_dir (a ∷ []) few = refl
no_last_dir (a ∷ b ∷ es) few = absurd (omega (arith, few))
