-- A log that was read, before anything is changed.
use Rattle.std.specs.Prelude.{ℕ, List}
use Rattle.fs_msg.specs.declared.end.End.{End}
use Rattle.fs_server.specs.declared.change.Change.TheVariants.{Admit}
use Rattle.fs_server.specs.declared.ships.Taken.{Taken}
use Rattle.fs_server.specs.declared.state.Server.{Server}
use Rattle.fs_server.specs.Plan.{changed}
use Rattle.fs_server.specs.Ships.{Shipping}

-- the server and the answer where these entries are admitted
abbrev pub shipped_by : Taken → End → List ℕ → Server → Shipping
shipped_by t e gaps s = record { server = changed (Admit t.effects) s; admitted = t.admitted; end = e; gaps = gaps }
