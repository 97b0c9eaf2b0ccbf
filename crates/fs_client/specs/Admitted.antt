-- Entries that are known to be admitted, taken together.
use Rattle.std.specs.Prelude.{List, [], ◌∷◌}
use Rattle.fs_msg.specs.declared.entry.Entry.{Entry}
use Rattle.fs_view.specs.View.{View, without_pins}

-- the leases that the entries used are unpinned, entry by entry
abbrev pub freed : List Entry → View → View
freed [] v = v
freed (e ∷ es) v = freed es (without_pins e.uses v)
