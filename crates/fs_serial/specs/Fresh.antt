-- Identifiers: which were made, and which are reserved.
use Rattle.std.specs.Prelude.{◌≡◌, ℕ, ◌≤◌, true, List, [], ◌∷◌, ◌++◌, Option, Some, None, is_some, if◌then◌else◌}
use Rattle.std.specs.FinMap.{get}
use Rattle.fs_ident.specs.Ident.{child, same}
use Rattle.fs_ident.specs.In.{In}
use Rattle.fs_ident.specs.declared.actor.LeaseNo.{LeaseNo}
use Rattle.fs_ident.specs.declared.actor.Session.{Session}
use Rattle.fs_ident.specs.declared.kind.Kind.{Kind}
use Rattle.fs_ident.specs.declared.kind.Kind.TheVariants.{Dir}
use Rattle.fs_field.specs.Field.{file_of}
use Rattle.fs_field.specs.declared.field.Field.TheVariants.{Life}
use Rattle.fs_field.specs.declared.value.Value.{Value}
use Rattle.fs_field.specs.declared.value.Value.TheVariants as value
use Rattle.fs_model.specs.Sound.{kind_of}
use Rattle.fs_model.specs.declared.op.Op.{Op}
use Rattle.fs_model.specs.declared.op.Op.TheVariants as op
use Rattle.fs_model.specs.declared.reply.Reply.{Reply}
use Rattle.fs_model.specs.declared.reply.Reply.TheVariants as reply
use Rattle.fs_msg.specs.declared.entry.Entry.{Entry}
use Rattle.fs_msg.specs.declared.item.Item.{Item}
use Rattle.fs_record.specs.Fresh.{is_directory}
use Rattle.fs_record.specs.Records.{RecordMap, node_of, next_of}
use Rattle.fs_serial.specs.Pending.{named_by}
use Rattle.fs_serial.specs.Settled.{Lease, Settled}

-- ## Made

-- the kind of the file, where the operation made it
abbrev pub made_by : Op → Reply → List ℕ → Option Kind
made_by (op.Create dir name kind (Some new)) reply.Made id = if same new id then Some kind else None
made_by o r id = None

abbrev pub or_else : Option Kind → Option Kind → Option Kind
or_else None k = k
or_else (Some k) l = Some k

-- the root is a directory from the start
abbrev pub root_kind : List ℕ → Option Kind
root_kind [] = Some Dir
root_kind (n ∷ ns) = None

abbrev pub made_in : List Item → List ℕ → Option Kind
made_in [] id = None
made_in (i ∷ is) id = or_else (made_by i.op i.reply id) (made_in is id)

-- with which kind an identifier was made
abbrev pub made : List Item → List ℕ → Option Kind
made journal id = or_else (root_kind id) (made_in journal id)

abbrev pub IsMade : List Item → List ℕ → Type 0
IsMade journal id = is_some (made journal id) ≡ true

-- what lives was made, and is of the kind with which it was made
abbrev pub NodesMade : RecordMap → List Item → Type 0
NodesMade m journal = (id : List ℕ) (kind : Kind) → kind_of (node_of (get m id)) ≡ Some kind → made journal id ≡ Some kind

-- ## What leases tell of it

-- it tells whether the file lives, and a directory that it tells of was made as one
pub record TellsLife (journal : List Item) (file : List ℕ) (told : Value) : Type 0 where
  pub life : Option Kind
  pub is : told ≡ value.Life life
  pub dir : life ≡ Some Dir → made journal file ≡ Some Dir

-- each lease on the life of a file tells it
abbrev pub LivesTold : List Item → List Lease → Type 0
LivesTold journal leases = (l : Lease) → In l leases → (file : List ℕ) → l.field ≡ Life file → TellsLife journal file l.base

-- ## Reserved

-- the identifier is that one, or begins with it
abbrev pub IsAtOrBelow : List ℕ → List ℕ → Type 0
IsAtOrBelow top id = (rest : List ℕ) × (id ≡ top ++ rest)

-- what reserves an identifier: a lease, by its number, or the log
pub data Claim : Type 0 where
  ByLease : LeaseNo → Claim
  ByLog : Claim

-- a lease with that number is on the file, and was given for it until it is known to be made
pub record HoldsFresh (leases : List Lease) (wanted : LeaseNo) (id : List ℕ) : Type 0 where
  pub lease : Lease
  pub held : In lease leases
  pub number : lease.no ≡ wanted
  pub fresh : is_some lease.below ≡ true
  pub file : file_of lease.field ≡ id

-- an entry of the log names it
pub record NamesFresh (log : List Entry) (id : List ℕ) : Type 0 where
  pub entry : Entry
  pub among : In entry log
  pub named : named_by entry.op ≡ Some id

abbrev pub IsReserved : List Lease → List Entry → Claim → List ℕ → Type 0
IsReserved leases log (ByLease number) id = HoldsFresh leases number id
IsReserved leases log ByLog id = NamesFresh log id

abbrev pub Reserves : Settled → Claim → List ℕ → Type 0
Reserves d claim id = IsReserved d.leases d.log claim id

-- what each session reserves, and by what
abbrev pub Reserved : Type 1
Reserved = Session → Claim → List ℕ → Type 0

-- the identifiers that leases of clients, and entries of their logs, reserve
abbrev pub reserved_by : (Session → Settled) → Reserved
reserved_by clients by claim id = Reserves (clients by) claim id

-- of two leases it is one and the same
abbrev pub AreOne : Claim → Claim → Type 0
AreOne (ByLease n) (ByLease k) = n ≡ k
AreOne (ByLease n) ByLog = Unit {0}
AreOne ByLog k = Unit {0}

-- fresh identifiers are reserved once, and nothing was made at one or below it; nor was anything made, or is anything
-- reserved, at or below an identifier that a directory has not given yet
pub record FreshReserved (reserved : Reserved) (m : RecordMap) (journal : List Item) : Type 0 where
  pub once : (x y : Session) (n k : Claim) (i j : List ℕ) → reserved x n i → reserved y k j → IsAtOrBelow i j
      → (x ≡ y) × (i ≡ j) × AreOne n k
  pub unmade : (x : Session) (n : Claim) (i j : List ℕ) → reserved x n i → IsMade journal j → IsAtOrBelow i j → ⊥
  pub made_before : (dir : List ℕ) (k : ℕ) (j : List ℕ) → is_directory m dir ≡ true → next_of (get m dir) ≤ k
      → IsMade journal j → IsAtOrBelow (child dir k) j → ⊥
  pub reserved_before : (dir : List ℕ) (k : ℕ) (x : Session) (n : Claim) (j : List ℕ) → is_directory m dir ≡ true → next_of (get m dir) ≤ k
      → reserved x n j → IsAtOrBelow (child dir k) j → ⊥
