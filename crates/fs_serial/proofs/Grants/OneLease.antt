-- The row of a lease.
use Rattle.std.proofs.Common.{◌≡◌, ◌==◌, ◌&&◌, true, refl, ap, ◌∙◌}
use Rattle.std.specs.Cmp.{nat_eq_equiv}
use Rattle.std.specs.Cmp.Lexicographic.{nat_list_eq_equiv}
use Rattle.fs_ident.specs.declared.actor.Session.{Session}
use Rattle.fs_ident.proofs.Booleans.{joined}
use Rattle.fs_modes.specs.declared.modes.Mode.{Mode}
use Rattle.fs_field.specs.declared.field.Field.{Field}
use Rattle.fs_field.specs.declared.field.Field.TheVariants.{Life, Child, Names, Info, Own, SelfW, Other}
use Rattle.fs_field.specs.declared.lease_kind.LeaseKind.{LeaseKind}
use Rattle.fs_field.specs.declared.lease_kind.LeaseKind.TheVariants.{Shared, Exclusive}
use Rattle.fs_field.specs.declared.row.Row.{Row}
use Rattle.fs_field.specs.declared.used.Use.{Use}
use Rattle.fs_field.specs.Field.{same_field, same_mode, mode_rank}
use Rattle.fs_field.specs.Table.{is_lease, has_no, same_no, same_kind}
use Rattle.fs_field.proofs.SameNo.{same_no_self}

same_mode_self : (m : Mode) → same_mode m m ≡ true
same_mode_self m = nat_eq_equiv.refl (mode_rank m)

pub same_field_self : (f : Field) → same_field f f ≡ true
same_field_self (Life a) = nat_list_eq_equiv.refl a
same_field_self (Child a n) = joined _ _ (nat_list_eq_equiv.refl a) (nat_list_eq_equiv.refl n)
same_field_self (Names a) = nat_list_eq_equiv.refl a
same_field_self (Info a) = nat_list_eq_equiv.refl a
same_field_self (Own a) = nat_list_eq_equiv.refl a
same_field_self (SelfW a m) = joined _ _ (nat_list_eq_equiv.refl a) (same_mode_self m)
same_field_self (Other a m) = joined _ _ (nat_list_eq_equiv.refl a) (same_mode_self m)

pub same_kind_self : (k : LeaseKind) → same_kind k k ≡ true
same_kind_self Shared = refl
same_kind_self Exclusive = refl

pub lease_is : (r : Row) (u : Use) (by : Session) → r.no ≡ u.no → r.session ≡ by → r.field ≡ u.field → r.kind ≡ u.kind → is_lease u.no by u.field u.kind r ≡ true
lease_is r u by n s f k =
    joined ((has_no u.no r && (r.session.0 == by.0)) && same_field r.field u.field) (same_kind r.kind u.kind)
    (joined (has_no u.no r && (r.session.0 == by.0)) (same_field r.field u.field)
    (joined (has_no u.no r) (r.session.0 == by.0) (ap (λ m. same_no m u.no) n ∙ same_no_self u.no) (ap (λ (x : Session). x.0 == by.0) s ∙ nat_eq_equiv.refl by.0))
    (ap (λ x. same_field x u.field) f ∙ same_field_self u.field))
    (ap (λ x. same_kind x u.kind) k ∙ same_kind_self u.kind)
