-- That a client's script has the lines that are counted.
use Rattle.std.specs.Prelude.{ℕ, ◌+◌, ◌≤◌, length, Option, Some, None}
use Rattle.fs_client.specs.declared.led.Led.{Led}
use Rattle.fs_node.specs.declared.client_state.ClientState.{ClientState}

-- the line that a server leads, if it leads one
abbrev pub lines_led : Option Led → ℕ
lines_led None = 0
lines_led (Some l) = 1

-- the lines that are done, and the one that is led, are no more than the script has
abbrev pub HasLines : ClientState → Type 0
HasLines x = x.done + lines_led x.client.led ≤ length x.script
