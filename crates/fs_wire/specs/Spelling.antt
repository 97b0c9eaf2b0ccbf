-- The one spelling of each value, as bytes. Numbers are big endian; a list has its count before it, a choice its tag.
use Rattle.std.specs.Prelude.{ℕ, ◌+◌, ◌*◌, Bool, true, false, List, [], ◌∷◌, ◌++◌, length, Option, Some, None}
use Rattle.std.specs.List.{flat_map}
use Rattle.std.specs.Int.{w16, w32, w64, to_be_bytes}
use Rattle.fs_ident.specs.Packed.{packed}
use Rattle.fs_ident.specs.declared.actor.LeaseNo.{LeaseNo}
use Rattle.fs_ident.specs.declared.actor.TxnNo.{TxnNo}
use Rattle.fs_ident.specs.declared.actor.PathNo.{PathNo}
use Rattle.fs_ident.specs.declared.actor.Session.{Session}
use Rattle.fs_ident.specs.declared.kind.Kind.{Kind}
use Rattle.fs_ident.specs.declared.kind.Kind.TheVariants.{File, Dir}
use Rattle.fs_modes.specs.declared.modes.Modes.{Modes}
use Rattle.fs_modes.specs.Modes.{acc_of, deny_of}
use Rattle.fs_modes.specs.declared.modes.Mode.{Mode}
use Rattle.fs_field.specs.Field.{mode_rank}
use Rattle.fs_field.specs.declared.field.Field.{Field}
use Rattle.fs_field.specs.declared.field.Field.TheVariants as field_
use Rattle.fs_field.specs.declared.value.Value.{Value}
use Rattle.fs_field.specs.declared.value.Value.TheVariants as value_
use Rattle.fs_field.specs.declared.lease_kind.LeaseKind.{LeaseKind}
use Rattle.fs_field.specs.declared.lease_kind.LeaseKind.TheVariants.{Shared, Exclusive}
use Rattle.fs_field.specs.declared.used.Use.{Use}
use Rattle.fs_field.specs.declared.row.Row.{Row}
use Rattle.fs_field.specs.declared.effect.Effect.{Effect}
use Rattle.fs_field.specs.declared.effect.Effect.TheVariants as effect_
use Rattle.fs_field.specs.declared.used.Part.{Part}
use Rattle.fs_field.specs.declared.vote.Vote.{Vote}
use Rattle.fs_field.specs.declared.vote.Vote.TheVariants as vote_
use Rattle.fs_model.specs.declared.node.Handle.{Handle}
use Rattle.fs_model.specs.declared.node.Node.{Node}
use Rattle.fs_model.specs.declared.op.Op.{Op}
use Rattle.fs_model.specs.declared.op.Op.TheVariants as op_
use Rattle.fs_model.specs.declared.reply.Reply.{Reply}
use Rattle.fs_model.specs.declared.reply.Reply.TheVariants as reply_

-- a number in two, four and eight bytes
unfoldable pub two : ℕ → List ℕ
two n = to_be_bytes w16 n

unfoldable pub four : ℕ → List ℕ
four n = to_be_bytes w32 n

unfoldable pub eight : ℕ → List ℕ
eight n = to_be_bytes w64 n

-- a truth value
abbrev pub truth : Bool → List ℕ
truth false = 0 ∷ []
truth true = 1 ∷ []

-- nothing, or something
abbrev pub option : {A : Type 0} → (A → List ℕ) → Option A → List ℕ
option text None = 0 ∷ []
option text (Some x) = 1 ∷ text x

-- how many, and each of them
unfoldable pub list : {A : Type 0} → (A → List ℕ) → List A → List ℕ
list text xs = eight (length xs) ++ flat_map text xs

-- one after the other
abbrev pub pair : {A B : Type 0} → (A → List ℕ) → (B → List ℕ) → A × B → List ℕ
pair first second p = first p.0 ++ second p.1

-- the packed form: codes of the depth and one and of each number, bit by bit, and zeros up to a whole byte
abbrev pub identifier : List ℕ → List ℕ
identifier id = packed id

-- the length, and the bytes
abbrev pub name : List ℕ → List ℕ
name bytes = length bytes ∷ bytes

abbrev pub session : Session → List ℕ
session s = two s.0

-- the server, and its count
abbrev pub lease : LeaseNo → List ℕ
lease l = l.server ∷ eight l.count

abbrev pub transaction : TxnNo → List ℕ
transaction t = t.server ∷ eight t.count

abbrev pub path_lease : PathNo → List ℕ
path_lease p = p.server ∷ eight p.count

abbrev pub kind : Kind → List ℕ
kind File = 0 ∷ []
kind Dir = 1 ∷ []

abbrev pub lease_kind : LeaseKind → List ℕ
lease_kind Shared = 0 ∷ []
lease_kind Exclusive = 1 ∷ []

-- the place of the mode among the six
abbrev pub mode : Mode → List ℕ
mode m = mode_rank m ∷ []

-- accesses in the low three bits, denials in the next three
unfoldable pub modes : Modes → List ℕ
modes m = (acc_of m + deny_of m * 8) ∷ []

unfoldable pub field : Field → List ℕ
field (field_.Life file) = 0 ∷ identifier file
field (field_.Child dir n) = 1 ∷ identifier dir ++ name n
field (field_.Names dir) = 2 ∷ identifier dir
field (field_.Info file) = 3 ∷ identifier file
field (field_.Own file) = 4 ∷ identifier file
field (field_.SelfW file m) = 5 ∷ identifier file ++ mode m
field (field_.Other file m) = 6 ∷ identifier file ++ mode m

unfoldable pub value : Value → List ℕ
value (value_.Life k) = 0 ∷ option kind k
value (value_.Child file) = 1 ∷ option identifier file
value (value_.Names names) = 2 ∷ list name names
value (value_.Info size stamp) = 3 ∷ eight size ++ eight stamp
value (value_.Own handles) = 4 ∷ list (pair four modes) handles
value value_.SelfW = 5 ∷ []
value (value_.Other held) = 6 ∷ truth held

unfoldable pub op : Op → List ℕ
op (op_.Lookup dir n) = 0 ∷ identifier dir ++ name n
op (op_.List dir) = 1 ∷ identifier dir
op (op_.Kind file) = 2 ∷ identifier file
op (op_.Info file) = 3 ∷ identifier file
op (op_.Create dir n k id) = 4 ∷ identifier dir ++ (name n ++ (kind k ++ option identifier id))
op (op_.OpenFile file h m) = 5 ∷ identifier file ++ (four h ++ modes m)
op (op_.Close file h) = 6 ∷ identifier file ++ four h
op (op_.Set file h size stamp) = 7 ∷ identifier file ++ (four h ++ (eight size ++ eight stamp))
op (op_.Delete dir n) = 8 ∷ identifier dir ++ name n
op (op_.Rename sdir sname ddir dname) = 9 ∷ identifier sdir ++ (name sname ++ (identifier ddir ++ name dname))
op (op_.Reap file s) = 10 ∷ identifier file ++ session s

unfoldable pub reply : Reply → List ℕ
reply reply_.Gone = 0 ∷ []
reply reply_.NotDir = 1 ∷ []
reply reply_.GoneTo = 2 ∷ []
reply reply_.NotDirTo = 3 ∷ []
reply reply_.NoName = 4 ∷ []
reply (reply_.Found file) = 5 ∷ identifier file
reply (reply_.Names names) = 6 ∷ list name names
reply reply_.IsFile = 7 ∷ []
reply reply_.IsDir = 8 ∷ []
reply (reply_.Info size stamp) = 9 ∷ eight size ++ eight stamp
reply reply_.Exists = 10 ∷ []
reply reply_.BadId = 11 ∷ []
reply reply_.Made = 12 ∷ []
reply reply_.HandleUsed = 13 ∷ []
reply reply_.Sharing = 14 ∷ []
reply reply_.Opened = 15 ∷ []
reply reply_.NoHandle = 16 ∷ []
reply reply_.Closed = 17 ∷ []
reply reply_.NoAccess = 18 ∷ []
reply reply_.Set = 19 ∷ []
reply reply_.NotEmpty = 20 ∷ []
reply reply_.InUse = 21 ∷ []
reply reply_.Deleted = 22 ∷ []
reply reply_.Cycle = 23 ∷ []
reply reply_.Renamed = 24 ∷ []
reply reply_.Reaped = 25 ∷ []

unfoldable pub lease_use : Use → List ℕ
lease_use u = field u.field ++ (lease_kind u.kind ++ (lease u.no ++ eight u.until))

-- a lease that was given
unfoldable pub row : Row → List ℕ
row r = lease r.no ++
    (session r.session ++
    (field r.field ++ (lease_kind r.kind ++ (eight r.until ++ (option truth r.promise ++ option transaction r.lock)))))

-- a change of the namespace
unfoldable pub effect : Effect → List ℕ
effect (effect_.SetChild dir n to) = 0 ∷ identifier dir ++ (name n ++ option identifier to)
effect (effect_.SetParent file dir n) = 1 ∷ identifier file ++ (identifier dir ++ name n)
effect (effect_.NewNode file k dir n) = 2 ∷ identifier file ++ (kind k ++ (identifier dir ++ name n))
effect (effect_.RemoveNode file) = 3 ∷ identifier file
effect (effect_.AddHandle file s h m) = 4 ∷ identifier file ++ (session s ++ (four h ++ modes m))
effect (effect_.RemoveHandle file s h) = 5 ∷ identifier file ++ (session s ++ four h)
effect (effect_.SetInfo file size stamp) = 6 ∷ identifier file ++ (eight size ++ eight stamp)

-- what a led operation asks of the server of one file
unfoldable pub part : Part → List ℕ
part p = identifier p.file ++ (list lease_use p.uses ++ option identifier p.freeze)

-- whether it is ready
unfoldable pub vote : Vote → List ℕ
vote vote_.Yes = 0 ∷ []
vote (vote_.Ended missed until now) = 1 ∷ lease missed ++ (eight until ++ eight now)
vote (vote_.Moved prefix to) = 2 ∷ identifier prefix ++ to ∷ []
vote (vote_.PathsOut given) = 3 ∷ path_lease given

-- the session, its number for the open, and the modes
abbrev pub handle : Handle → List ℕ
handle h = session h.session ++ (four h.h ++ modes h.modes)

unfoldable pub node : Node → List ℕ
node n = kind n.kind
    ++ (option (pair identifier name) n.parent
    ++ (list (pair name identifier) n.children ++ (eight n.size ++ (eight n.stamp ++ list handle n.handles))))
