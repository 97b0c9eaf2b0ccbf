-- Which numbers the files of rows bear.
use Rattle.std.proofs.Common.{◌≡◌, ◌==◌, not, ◌||◌, ℕ, Bool, true, false, List, [], ◌∷◌, ◌++◌, refl, ap, cond, sym, ◌∙◌, inl, inr}
use Rattle.std.specs.Prelude.{Option, Some, None}
use Rattle.std.specs.Cmp.{nat_eq_equiv}
use Rattle.std.specs.Cmp.Lexicographic.{same_text}
use Rattle.std.specs.List.{list_any, cons_option}
use Rattle.std.proofs.lemmas.List.Folds.{list_any-append}
use Rattle.std.proofs.lemmas.Bool.{and_right}
use Rattle.std.proofs.Math.Bool.{or-false}
use Rattle.fs_ident.specs.declared.actor.Session.{Session}
use Rattle.fs_ident.specs.Ident.{child, same}
use Rattle.fs_ident.specs.In.{In}
use Rattle.fs_ident.specs.Ordered.{put_before}
use Rattle.fs_ident.proofs.Booleans.{neither}
use Rattle.fs_field.specs.declared.field.Field.{Field}
use Rattle.fs_field.specs.declared.field.Field.TheVariants.{Life, Child, Names, Info, Own, SelfW, Other}
use Rattle.fs_field.specs.declared.lease_kind.LeaseKind.{LeaseKind}
use Rattle.fs_field.specs.declared.row.Row.{Row}
use Rattle.fs_field.specs.Conflict.{meets, stands_against}
use Rattle.fs_field.specs.Field.{file_of}
use Rattle.fs_field.specs.Table.{no_before, with_row, child_number, borne_numbers}
use Rattle.fs_field.proofs.Below.{told}
use Rattle.fs_field.proofs.Named.{swapped as or_swapped}
use Rattle.fs_rows.specs.Granted.{with_rows}

-- the number is among these
abbrev pub bears : ℕ → List ℕ → Bool
bears k numbers = list_any (λ b. b == k) numbers

abbrev number_below : List ℕ → Row → Option ℕ
number_below dir r = child_number dir (file_of r.field)

swapped : (k : ℕ) (o p : Option ℕ) (ns : List ℕ) → bears k (cons_option o (cons_option p ns)) ≡ bears k (cons_option p (cons_option o ns))
swapped k None p ns = refl
swapped k (Some a) None ns = refl
swapped k (Some a) (Some b) ns = or_swapped (a == k) (b == k) (bears k ns)

under : (k : ℕ) (o : Option ℕ) (ms ns : List ℕ) → bears k ms ≡ bears k ns → bears k (cons_option o ms) ≡ bears k (cons_option o ns)
under k None ms ns h = h
under k (Some a) ms ns h = ap (λ b. (a == k) || b) h

put_bears : (dir : List ℕ) (k : ℕ) (first : Row → Bool) (r : Row) (rows : List Row) → bears k (borne_numbers dir (put_before first r rows)) ≡ bears k (borne_numbers dir (r ∷ rows))
put_bears dir k first r [] = refl
put_bears dir k first r (y ∷ ys) =
    elim (first y) as (λ b. bears k (borne_numbers dir (cond b (r ∷ y ∷ ys) (y ∷ put_before first r ys))) ≡ bears k (borne_numbers dir (r ∷ y ∷ ys))) [
      | true ↦ refl
      | false ↦ under k (number_below dir y) (borne_numbers dir (put_before first r ys)) (borne_numbers dir (r ∷ ys)) (put_bears dir k first r ys)
          ∙ swapped k (number_below dir y) (number_below dir r) (borne_numbers dir ys)
    ]

-- with one row more, the number is that of its file or was borne
pub bears-with_row : (dir : List ℕ) (k : ℕ) (r : Row) (rows : List Row) → list_any (λ b. b == k) (borne_numbers dir (with_row r rows)) ≡ list_any (λ b. b == k) (cons_option (child_number dir (file_of r.field)) (borne_numbers dir rows))
bears-with_row dir k r rows = put_bears dir k (λ x. no_before r.no x.no) r rows

either_end : (k : ℕ) (o : Option ℕ) (ms ns : List ℕ) → bears k (cons_option o ms ++ ns) ≡ bears k (ms ++ cons_option o ns)
either_end k None ms ns = refl
either_end k (Some a) [] ns = refl
either_end k (Some a) (m ∷ ms) ns = swapped k (Some a) (Some m) (ms ++ ns) ∙ ap (λ b. (m == k) || b) (either_end k (Some a) ms ns)

under_append : (k : ℕ) (ms ns os : List ℕ) → bears k ms ≡ bears k ns → bears k (ms ++ os) ≡ bears k (ns ++ os)
under_append k ms ns os h = list_any-append (λ b. b == k) ms os ∙ ap (λ b. b || bears k os) h ∙ sym (list_any-append (λ b. b == k) ns os)

-- with several rows more, the numbers are those that were borne and those of their files
pub bears-with_rows : (dir : List ℕ) (k : ℕ) (more rows : List Row) → list_any (λ b. b == k) (borne_numbers dir (with_rows more rows)) ≡ list_any (λ b. b == k) (borne_numbers dir rows ++ borne_numbers dir more)
bears-with_rows dir k [] rows = sym (list_any-append (λ b. b == k) (borne_numbers dir rows) [] ∙ or-false (bears k (borne_numbers dir rows)))
bears-with_rows dir k (r ∷ rs) rows =
    bears-with_rows dir k rs (with_row r rows)
    ∙ under_append k (borne_numbers dir (with_row r rows)) (borne_numbers dir (r ∷ rows)) (borne_numbers dir rs) (bears-with_row dir k r rows)
    ∙ either_end k (number_below dir r) (borne_numbers dir rows) (borne_numbers dir rs)

pub borne_here : (k : ℕ) (o : Option ℕ) (ns : List ℕ) → o ≡ Some k → bears k (cons_option o ns) ≡ true
borne_here k o ns e = ap (λ p. bears k (cons_option p ns)) e ∙ ap (λ b. b || bears k ns) (nat_eq_equiv.refl k)

borne_behind : (k : ℕ) (o : Option ℕ) (ns : List ℕ) → bears k (cons_option o ns) ≡ false → bears k ns ≡ false
borne_behind k None ns h = h
borne_behind k (Some n) ns h = (neither (n == k) (bears k ns) h).1

-- where the number is not borne no row is on a file with it
pub not_on : (dir : List ℕ) (k : ℕ) (rows : List Row) → bears k (borne_numbers dir rows) ≡ false → (x : Row) → In x rows → file_of x.field ≡ child dir k → ⊥
not_on dir k [] h x i e = i
not_on dir k (r ∷ rs) h x i e =
    elim i [
      | inl q ↦
          let here : number_below dir r ≡ Some k = ap (λ (z : Row). number_below dir z) (sym q) ∙ ap (child_number dir) e ∙ told dir k in
          let wrong : true ≡ false = sym (borne_here k (number_below dir r) (borne_numbers dir rs) here) ∙ h in
          absurd (cc)
      | inr j ↦ not_on dir k rs (borne_behind k (number_below dir r) (borne_numbers dir rs) h) x j e
    ]

another : (a b : List ℕ) → (b ≡ a → ⊥) → same a b ≡ false
another a b h =
    elim (same a b) as (λ c. same a b ≡ c → c ≡ false) [
      | true ↦ λ e. absurd (h (sym (same_text a b (sym e))))
      | false ↦ λ e. refl
    ] refl

-- a lease on the life of a file goes with those on the fields of others
lives_apart : (c : List ℕ) (k : LeaseKind) (g : Field) (l : LeaseKind) → (file_of g ≡ c → ⊥) → meets (Life c) k g l ≡ false
lives_apart c k (Life b) l h = rw (another c b h) refl
lives_apart c k (Child b n) l h = refl
lives_apart c k (Names b) l h = refl
lives_apart c k (Info b) l h = refl
lives_apart c k (Own b) l h = refl
lives_apart c k (SelfW b m) l h = refl
lives_apart c k (Other b m) l h = refl

-- no row stands against a lease on the life of a file whose number no row bears
pub gift_goes : (s : Session) (dir : List ℕ) (k : ℕ) (l : LeaseKind) (rows : List Row) → list_any (λ b. b == k) (borne_numbers dir rows) ≡ false → (x : Row) → In x rows → stands_against s (Life (child dir k)) l x ≡ false
gift_goes s dir k l rows free x i = and_right (not (s.0 == x.session.0)) (meets (Life (child dir k)) l x.field x.kind) (lives_apart (child dir k) l x.field x.kind (not_on dir k rows free x i))
