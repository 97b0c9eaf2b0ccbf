use Rattle.std.proofs.Common.{ap, sym, ◌∙◌, arith}
use Rattle.std.proofs.lemmas.List.{at_drop_all}
use Rattle.std.specs.FinMap.{keys}
use Rattle.fs_record.specs.Applied.{nodes_after_all, records_after_all}
use Rattle.fs_record.specs.Records.{nodes_of}
use Rattle.fs_serial.specs.Joined.{records_of_all, with_nodes}
use Rattle.fs_serial.proofs.Lists.Journals.{nodes_all}
use Rattle.fs_serial.proofs.Places.Joining.{nodes_alone}
use Rattle.fs_serial.proofs.space.joined.Goals as goal

pub returns : goal.returns
returns c =
    let es = c.args.decided.now in
    let none_left = at_drop_all (records_after_all c.loop-e.all) c.as_slice-e-items.result.now c.loop-e.e-index (omega arith) in
    let applied = sym none_left ∙ c.loop-e.invariant ∙ ap (records_after_all c.in_ok-all.all) c.as_slice-e-items.ensures in
    c.in_ok-put_records.ensures
    ∙ ap (with_nodes c.loop-e.all (keys c.loop-e.all)) c.empty-space.ensures
    ∙ nodes_alone c.loop-e.all
    ∙ ap nodes_of applied
    ∙ nodes_all c.in_ok-all.all es
    ∙ ap (λ n. nodes_after_all n es) c.in_ok-all.ensures
    ∙ sym (nodes_all (records_of_all c.args.servers.now c.args.in_flight.now) es)
