-- Files that transactions keep where they are, while their words are on their way.
use Rattle.std.specs.Prelude.{◌≡◌, ◌⊎◌, ℕ, List, Some, None}
use Rattle.std.specs.FinMap.{get}
use Rattle.fs_ident.specs.In.{In}
use Rattle.fs_ident.specs.declared.kind.Kind.{Kind}
use Rattle.fs_ident.specs.declared.kind.Kind.TheVariants.{File}
use Rattle.fs_field.specs.declared.effect.Effect.{Effect}
use Rattle.fs_field.specs.declared.effect.Effect.TheVariants.{SetChild, SetParent, RemoveNode}
use Rattle.fs_field.specs.declared.used.Part.{Part}
use Rattle.fs_model.specs.Sound.{child_of}
use Rattle.fs_model.specs.declared.op.Op.{Op}
use Rattle.fs_model.specs.declared.op.Op.TheVariants as op
use Rattle.fs_msg.specs.declared.item.Item.{Item}
use Rattle.fs_record.specs.Records.{RecordMap, node_of}
use Rattle.fs_client.specs.declared.led.Led.{Led}
use Rattle.fs_server.specs.PathSteps.{dir_here}
use Rattle.fs_server.specs.declared.state.Server.{Server}
use Rattle.fs_txn.specs.Locks.{Agreed}
use Rattle.fs_txn.specs.Stages.{word_to}
use Rattle.fs_txn.specs.Stages.Word.{Decide}
use Rattle.fs_txn.specs.declared.leading.Leading.{Leading}
use Rattle.fs_txn.specs.declared.mode.Mode2.{Mode2}
use Rattle.fs_txn.specs.declared.mode.Mode2.TheVariants.{Freeze}
use Rattle.fs_txn.specs.declared.ready.Ready.{Ready}
use Rattle.fs_serial.specs.Cluster.{Cluster}
use Rattle.fs_serial.specs.Fresh.{made}
use Rattle.fs_serial.specs.Runs.{records_in}
use Rattle.fs_serial.specs.Words.{key_of, said_at, telling_of}

-- a part that said Yes here keeps the file that it names
abbrev pub KeepsFiles : Server → Type 0
KeepsFiles s = (y : Agreed) (file : List ℕ) → In y (said_at s) → y.wanted.part.freeze ≡ Some file → In (file, y.key.txn) s.paths.frozen

-- where the effect gives what is no file another place, takes it out of a directory, or removes it, its part keeps it there; or it stays in
-- the directory in which its record says it is
abbrev pub IsKeptFor : RecordMap → List Item → Part → Effect → Type 0
IsKeptFor m journal p (SetParent file dir name) =
    (made journal file ≡ Some File) ⊎ ((p.freeze ≡ Some file) ⊎ (dir_here m file ≡ Some dir))
IsKeptFor m journal p (SetChild dir name None) =
    (file : List ℕ) → child_of (node_of (get m dir)) name ≡ Some file → (made journal file ≡ Some File) ⊎ (p.freeze ≡ Some file)
IsKeptFor m journal p (RemoveNode file) = (made journal file ≡ Some File) ⊎ (p.freeze ≡ Some file)
IsKeptFor m journal p e = Unit {0}

-- a delete of what is no file freezes
abbrev pub FreezesFor : Kind → Mode2 → Op → Type 0
FreezesFor kind mode (op.Delete dir name) = (kind ≡ File) ⊎ (mode ≡ Freeze)
FreezesFor kind mode o = Unit {0}

-- all servers keep what they have to keep
pub record FilesKept (c : Cluster) : Type 0 where
  pub here : (s : Server) → In s c.servers → KeepsFiles s
  -- so does each part that waits and is told what was decided
  pub told : (s : Server) → In s c.servers → (x : Ready) → In x s.prepared → (at : ℕ) (effects : List Effect)
      → In (word_to (key_of x.txn x.number) at (Decide effects)) (telling_of c.in_flight) → (e : Effect) → In e effects
      → IsKeptFor (records_in c) c.journal x.part e
  -- what is led and is to be kept has parts that keep it
  pub modes : (s : Server) → In s c.servers → (l : Leading) → In l s.leading → (d : Led)
      → (c.lines l.leader.session).client.led ≡ Some d → FreezesFor d.kind l.leader.mode l.leader.op
