use Rattle.std.proofs.Common.{ap, sym, ◌∙◌}
use Rattle.std.specs.Prelude.{Some, option_map}
use Rattle.fs_path.specs.Leases.{PathLease, has_no}
use Rattle.fs_path.proofs.Rising.{find_none, find_place}
use Rattle.fs_path.proofs.reads.found_issued_to.Goals as goal

pub returns-in-Some : goal.returns-in-Some
returns-in-Some c =
    ap Some (c.to.ensures ∙ ap (λ (l : PathLease). l.peer) c.index-issued-at.is)
    ∙ sym (ap (λ o. option_map (λ (l : PathLease). l.peer) o) (find_place (has_no c.args.no) c.args.issued.now c.in-Some.at c.index-issued-at.result c.in-Some.ensures))

pub returns-in-None : goal.returns-in-None
returns-in-None c = sym (ap (λ o. option_map (λ (l : PathLease). l.peer) o) (find_none (has_no c.args.no) c.args.issued.now c.in-None.ensures))
