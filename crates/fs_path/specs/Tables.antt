-- What a server keeps of path leases.
use Rattle.std.specs.Prelude.{ℕ, Bool, true, false, ◌&&◌, not, List, [], ◌∷◌, Option, option_map}
use Rattle.std.specs.List.{find, list_any}
use Rattle.fs_ident.specs.Ident.{same}
use Rattle.fs_ident.specs.Ordered.{put_before}
use Rattle.fs_ident.specs.declared.actor.PathNo.{PathNo}
use Rattle.fs_ident.specs.declared.actor.TxnNo.{TxnNo}
use Rattle.fs_map.specs.Map.{Owners}
use Rattle.fs_path.specs.Leases.{PathLease, comes_before, goes_into, goes_over, has_no, lesser_no, path_before}
use Rattle.fs_path.specs.declared.having.Having.{Having}
use Rattle.fs_path.specs.declared.having.Having.TheVariants.{Held, Leaving}

-- ## Leases from other servers

abbrev pub lease_of : Having → PathLease
lease_of (Held l) = l
lease_of (Leaving l) = l

-- it goes back, or is asked back
abbrev pub is_leaving : Having → Bool
is_leaving (Held l) = false
is_leaving (Leaving l) = true

abbrev pub leaving : Having → Having
leaving h = Leaving (lease_of h)

-- it may be used, and is the file's
abbrev pub serves : List ℕ → Having → Bool
serves file h = not (is_leaving h) && same (lease_of h).file file

-- ## Tables

-- the leases that the server gave out, and those that it has from others, each in order of number; and the files that transactions
-- keep where they are, in order of transaction
pub record PathTables : Type 0 where
  pub issued : List PathLease
  pub held : List Having
  pub frozen : List (List ℕ × TxnNo)

abbrev pub no_paths : PathTables
no_paths = record { issued = []; held = []; frozen = [] }

-- one lease more, before the first with a greater number
abbrev pub with_issued : PathLease → List PathLease → List PathLease
with_issued l issued = put_before (λ x. path_before l.no x.no) l issued

abbrev pub with_held : Having → List Having → List Having
with_held h held = put_before (λ x. path_before (lease_of h).no (lease_of x).no) h held

-- ## What is read

-- the server to which the lease of this number is given out
abbrev pub issued_to : PathNo → List PathLease → Option ℕ
issued_to number issued = option_map (λ (l : PathLease). l.peer) (find (has_no number) issued)

-- it is had from another server, leaving or not
abbrev pub holds : PathNo → List Having → Bool
holds number held = list_any (λ h. has_no number (lease_of h)) held

-- the least number of those given out whose path goes over the file
abbrev pub through : List ℕ → List PathLease → Option PathNo
through file issued = option_map (λ (l : PathLease). l.no) (find (goes_over file) issued)

-- the least number of all whose path goes over a file below the prefix that is the server's
abbrev pub first_in : Owners → ℕ → List ℕ → PathTables → Option PathNo
first_in owners me prefix t =
    lesser_no (option_map (λ (l : PathLease). l.no) (find (goes_into owners me prefix) t.issued))
    (option_map (λ h. (lease_of h).no) (find (λ h. goes_into owners me prefix (lease_of h)) t.held))

-- ## Files that are kept where they are

-- one more, before the first with a greater transaction
abbrev pub with_frozen : List ℕ → TxnNo → List (List ℕ × TxnNo) → List (List ℕ × TxnNo)
with_frozen file txn frozen =
    put_before (λ x. comes_before (txn.server, txn.count) (x.1.server, x.1.count)) (file, txn) frozen

-- these, one behind the other
abbrev pub with_all_frozen : TxnNo → List (List ℕ) → List (List ℕ × TxnNo) → List (List ℕ × TxnNo)
with_all_frozen txn [] frozen = frozen
with_all_frozen txn (f ∷ fs) frozen = with_all_frozen txn fs (with_frozen f txn frozen)

-- the least transaction that keeps the file
abbrev pub frozen_for : List ℕ → List (List ℕ × TxnNo) → Option TxnNo
frozen_for file frozen = option_map (λ x. x.1) (find (λ x. same x.0 file) frozen)
