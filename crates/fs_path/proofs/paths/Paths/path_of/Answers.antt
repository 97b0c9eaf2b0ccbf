use Rattle.std.proofs.Common.{◌≡◌, IfOk, [], ap, subst, ◌∙◌}
use Rattle.fs_path.specs.Tables.{PathTables}
use Rattle.fs_path.specs.Walk.{path_of}
use Rattle.fs_path.proofs.Walking.{unseen}
use Rattle.fs_path.proofs.paths.Paths.path_of.Goals as goal

pub returns : goal.returns
returns c =
    let m = c.args.records.now in
    let file = c.args.file.now in
    let t : PathTables = record { issued = c.self.inside.issued; held = c.self.inside.held; frozen = c.self.inside.frozen } in
    let same =
    ap (λ hs. path_of (record { issued = []; held = hs; frozen = c.as_slice-2.result.now }) m file) c.as_slice.ensures
    ∙ ap (λ fs. path_of (record { issued = []; held = c.self.inside.held; frozen = fs }) m file) c.as_slice-2.ensures
    ∙ unseen t m file
    ∙ ap (λ (u : PathTables). path_of u m file) c.self.view_is in
    subst (λ answer. IfOk c.path_of.result (λ a. a ≡ answer)) same c.path_of.ensures
