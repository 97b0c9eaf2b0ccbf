-- What a caller may ask of the namespace.
use Rattle.std.specs.Prelude.{ℕ, Bool, true, false, not, is_some, List}
use Rattle.fs_modes.specs.Modes.{has_access}
use Rattle.fs_model.specs.declared.op.Op.{Op}
use Rattle.fs_model.specs.declared.op.Op.TheVariants as op

-- a caller asks for no reap, leaves the identifier of a create to the service, and opens with an access
abbrev pub may_ask : Op → Bool
may_ask (op.Create dir name kind id) = not (is_some id)
may_ask (op.OpenFile file h modes) = has_access modes
may_ask (op.Reap file session) = false
may_ask o = true

-- the file that the operation is on: of an operation on a name the directory, of a rename the one to which the file goes
abbrev pub home_of : Op → List ℕ
home_of (op.Lookup dir name) = dir
home_of (op.List dir) = dir
home_of (op.Kind file) = file
home_of (op.Info file) = file
home_of (op.Create dir name kind id) = dir
home_of (op.OpenFile file h modes) = file
home_of (op.Close file h) = file
home_of (op.Set file h size stamp) = file
home_of (op.Delete dir name) = dir
home_of (op.Rename sdir sname ddir dname) = ddir
home_of (op.Reap file session) = file
