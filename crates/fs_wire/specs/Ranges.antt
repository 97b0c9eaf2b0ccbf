-- Which values have a spelling.
use Rattle.std.specs.Prelude.{◌≡◌, ℕ, ◌<◌, ◌≤◌, ◌^◌, true, List, length, get_or, Option, Some, None}
use Rattle.std.specs.List.{AllByRecursion}
use Rattle.fs_ident.specs.Ident.{IsId}
use Rattle.fs_ident.specs.Name.{IsName}
use Rattle.fs_ident.specs.declared.actor.LeaseNo.{LeaseNo}
use Rattle.fs_ident.specs.declared.actor.TxnNo.{TxnNo}
use Rattle.fs_ident.specs.declared.actor.PathNo.{PathNo}
use Rattle.fs_ident.specs.declared.actor.Session.{Session}
use Rattle.fs_ident.specs.declared.limits.TheConstants.{SESSIONS}
use Rattle.fs_modes.specs.declared.modes.Modes.{Modes}
use Rattle.fs_modes.specs.Modes.{has_access}
use Rattle.fs_field.specs.declared.field.Field.{Field}
use Rattle.fs_field.specs.declared.field.Field.TheVariants as field_
use Rattle.fs_field.specs.declared.value.Value.{Value}
use Rattle.fs_field.specs.declared.value.Value.TheVariants as value_
use Rattle.fs_field.specs.declared.used.Use.{Use}
use Rattle.fs_field.specs.declared.row.Row.{Row}
use Rattle.fs_field.specs.declared.effect.Effect.{Effect}
use Rattle.fs_field.specs.declared.effect.Effect.TheVariants as effect_
use Rattle.fs_field.specs.declared.used.Part.{Part}
use Rattle.fs_field.specs.declared.vote.Vote.{Vote}
use Rattle.fs_field.specs.declared.vote.Vote.TheVariants as vote_
use Rattle.fs_model.specs.declared.node.Handle.{Handle}
use Rattle.fs_model.specs.declared.node.Node.{Node}
use Rattle.fs_model.specs.declared.op.Op.{Op}
use Rattle.fs_model.specs.declared.op.Op.TheVariants as op_
use Rattle.fs_model.specs.declared.reply.Reply.{Reply}
use Rattle.fs_model.specs.declared.reply.Reply.TheVariants as reply_

-- each number of the list is a byte
abbrev pub IsBytes : List ℕ → Type 0
IsBytes bytes = (i : ℕ) → get_or bytes i 0 < 256

-- a number of one, four and eight bytes
abbrev pub FitsOne : ℕ → Type 0
FitsOne n = n < 2 ^ 8

abbrev pub FitsFour : ℕ → Type 0
FitsFour n = n < 2 ^ 32

abbrev pub FitsEight : ℕ → Type 0
FitsEight n = n < 2 ^ 64

abbrev pub FitsAlways : {A : Type 0} → A → Type 0
FitsAlways x = Unit {0}

abbrev pub FitsOption : {A : Type 0} → (A → Type 0) → Option A → Type 0
FitsOption Fits None = Unit {0}
FitsOption Fits (Some x) = Fits x

abbrev pub FitsList : {A : Type 0} → (A → Type 0) → List A → Type 0
FitsList Fits xs = FitsEight (length xs) × AllByRecursion Fits xs

abbrev pub FitsPair : {A B : Type 0} → (A → Type 0) → (B → Type 0) → A × B → Type 0
FitsPair First Second p = First p.0 × Second p.1

-- sessions are numbered from 1 to the greatest
abbrev pub FitsSession : Session → Type 0
FitsSession s = (1 ≤ s.0) × (s.0 ≤ SESSIONS)

abbrev pub FitsLease : LeaseNo → Type 0
FitsLease l = FitsOne l.server × FitsEight l.count

abbrev pub FitsTransaction : TxnNo → Type 0
FitsTransaction t = FitsOne t.server × FitsEight t.count

abbrev pub FitsPathLease : PathNo → Type 0
FitsPathLease p = FitsOne p.server × FitsEight p.count

-- the next number of a directory, which is one above the greatest when none is left
abbrev pub FitsNext : ℕ → Type 0
FitsNext n = (1 ≤ n) × (n ≤ 2 ^ 32)

-- the modes of an open: it may do something
abbrev pub FitsModes : Modes → Type 0
FitsModes m = has_access m ≡ true

abbrev pub FitsField : Field → Type 0
FitsField (field_.Life file) = IsId file
FitsField (field_.Child dir n) = IsId dir × IsName n
FitsField (field_.Names dir) = IsId dir
FitsField (field_.Info file) = IsId file
FitsField (field_.Own file) = IsId file
FitsField (field_.SelfW file m) = IsId file
FitsField (field_.Other file m) = IsId file

abbrev pub FitsValue : Value → Type 0
FitsValue (value_.Life k) = Unit {0}
FitsValue (value_.Child file) = FitsOption IsId file
FitsValue (value_.Names names) = FitsList IsName names
FitsValue (value_.Info size stamp) = FitsEight size × FitsEight stamp
FitsValue (value_.Own handles) = FitsList (FitsPair FitsFour FitsModes) handles
FitsValue value_.SelfW = Unit {0}
FitsValue (value_.Other held) = Unit {0}

abbrev pub FitsOp : Op → Type 0
FitsOp (op_.Lookup dir n) = IsId dir × IsName n
FitsOp (op_.List dir) = IsId dir
FitsOp (op_.Kind file) = IsId file
FitsOp (op_.Info file) = IsId file
FitsOp (op_.Create dir n k id) = IsId dir × IsName n × FitsOption IsId id
FitsOp (op_.OpenFile file h m) = IsId file × FitsFour h × FitsModes m
FitsOp (op_.Close file h) = IsId file × FitsFour h
FitsOp (op_.Set file h size stamp) = IsId file × FitsFour h × FitsEight size × FitsEight stamp
FitsOp (op_.Delete dir n) = IsId dir × IsName n
FitsOp (op_.Rename sdir sname ddir dname) = IsId sdir × IsName sname × IsId ddir × IsName dname
FitsOp (op_.Reap file s) = IsId file × FitsSession s

abbrev pub FitsReply : Reply → Type 0
FitsReply (reply_.Found file) = IsId file
FitsReply (reply_.Names names) = FitsList IsName names
FitsReply (reply_.Info size stamp) = FitsEight size × FitsEight stamp
FitsReply r = Unit {0}

pub record FitsUse (u : Use) : Type 0 where
  pub field : FitsField u.field
  pub no : FitsLease u.no
  pub until : FitsEight u.until

pub record FitsRow (r : Row) : Type 0 where
  pub no : FitsLease r.no
  pub session : FitsSession r.session
  pub field : FitsField r.field
  pub until : FitsEight r.until
  pub lock : FitsOption FitsTransaction r.lock

abbrev pub FitsEffect : Effect → Type 0
FitsEffect (effect_.SetChild dir n to) = IsId dir × IsName n × FitsOption IsId to
FitsEffect (effect_.SetParent file dir n) = IsId file × IsId dir × IsName n
FitsEffect (effect_.NewNode file k dir n) = IsId file × IsId dir × IsName n
FitsEffect (effect_.RemoveNode file) = IsId file
FitsEffect (effect_.AddHandle file s h m) = IsId file × FitsSession s × FitsFour h × FitsModes m
FitsEffect (effect_.RemoveHandle file s h) = IsId file × FitsSession s × FitsFour h
FitsEffect (effect_.SetInfo file size stamp) = IsId file × FitsEight size × FitsEight stamp

pub record FitsPart (p : Part) : Type 0 where
  pub file : IsId p.file
  pub uses : FitsList FitsUse p.uses
  pub freeze : FitsOption IsId p.freeze

abbrev pub FitsVote : Vote → Type 0
FitsVote vote_.Yes = Unit {0}
FitsVote (vote_.Ended missed until now) = FitsLease missed × FitsEight until × FitsEight now
FitsVote (vote_.Moved prefix to) = IsId prefix × FitsOne to
FitsVote (vote_.PathsOut given) = FitsPathLease given

pub record FitsHandle (o : Handle) : Type 0 where
  pub session : FitsSession o.session
  pub h : FitsFour o.h
  pub modes : FitsModes o.modes

pub record FitsNode (n : Node) : Type 0 where
  pub parent : FitsOption (FitsPair IsId IsName) n.parent
  pub children : FitsList (FitsPair IsName IsId) n.children
  pub size : FitsEight n.size
  pub stamp : FitsEight n.stamp
  pub handles : FitsList FitsHandle n.handles
