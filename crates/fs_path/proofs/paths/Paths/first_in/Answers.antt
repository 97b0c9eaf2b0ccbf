use Rattle.std.proofs.Common.{ap, ◌∙◌}
use Rattle.std.specs.Prelude.{option_map}
use Rattle.std.specs.List.{find}
use Rattle.fs_path.specs.Leases.{PathLease, goes_into, lesser_no}
use Rattle.fs_path.specs.Tables.{first_in, lease_of}
use Rattle.fs_path.proofs.paths.Paths.first_in.Goals as goal

pub returns : goal.returns
returns c =
    let issued = c.first_issued.ensures ∙ ap (λ ls. option_map (λ (l : PathLease). l.no) (find (goes_into c.args.map.now c.args.me c.args.prefix.now) ls)) c.as_slice.ensures in
    let held = c.first_held.ensures ∙ ap (λ hs. option_map (λ h. (lease_of h).no) (find (λ h. goes_into c.args.map.now c.args.me c.args.prefix.now (lease_of h)) hs)) c.as_slice-2.ensures in
    c.lesser.ensures
    ∙ ap (λ o. lesser_no o c.first_held.result) issued
    ∙ ap (λ o. lesser_no (option_map (λ (l : PathLease). l.no) (find (goes_into c.args.map.now c.args.me c.args.prefix.now) c.self.inside.issued)) o) held
    ∙ ap (first_in c.args.map.now c.args.me c.args.prefix.now) c.self.view_is
