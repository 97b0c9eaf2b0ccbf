use Rattle.std.proofs.Common.{◌∙◌, [], ap, sym}
use Rattle.std.specs.Prelude.{Some}
use Rattle.fs_map.specs.Map.{server_of}
use Rattle.fs_map.proofs.Listing.{told, listing, one_list}
use Rattle.fs_map.proofs.law.maps_are_told_by_their_servers.Goals as goal

pub returns : goal.returns
returns c a b p q same =
    one_list (server_of a) [] a b
    (listing (server_of a) [] a p (λ id h. told [] a p 0 id h))
    (listing (server_of a) [] b q (λ id h. told [] b q 0 id h ∙ ap Some (sym (same id))))
