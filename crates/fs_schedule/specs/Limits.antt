-- What has a limit, and its name.
use Rattle.std.specs.Prelude.{ℕ, List, codes}
use Rattle.fs_schedule.specs.declared.error.Which.{Which}
use Rattle.fs_schedule.specs.declared.error.Which.TheVariants.{Bytes, Servers, Sessions, Events, Packets}

abbrev pub which_text : Which → List ℕ
which_text Bytes = codes "bytes"
which_text Servers = codes "servers"
which_text Sessions = codes "sessions"
which_text Events = codes "events"
which_text Packets = codes "packets"
