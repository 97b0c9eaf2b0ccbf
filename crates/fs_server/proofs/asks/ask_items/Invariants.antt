use Rattle.std.proofs.Common.{◌≡◌, [], drop}
use Rattle.fs_server.specs.Asks.{ask_from}
use Rattle.fs_server.specs.Grants.{IsLent, with_leases}
use Rattle.fs_server.proofs.asks.ask_items.Given as goal

abbrev pub invariant-loop-field : goal.invariant-loop-field
invariant-loop-field l = record {
  asked : ask_from l.by (drop l.field-index l.items) (with_leases l.lent.rows l.at) l.lent.grants ≡ ask_from l.by l.items l.at [];
  lent : IsLent l.by l.lent.rows l.at;
}
