-- What stands later: a row with an old number stood before.
use Rattle.std.proofs.Common.{◌≡◌, ℕ, ◌≤◌, List, refl, sym, ap, ◌∙◌, subst, arith}
use Rattle.fs_ident.specs.In.{In}
use Rattle.fs_ident.specs.declared.actor.LeaseNo.{LeaseNo}
use Rattle.fs_field.specs.Field.{file_of}
use Rattle.fs_field.specs.declared.row.Row.{Row}
use Rattle.fs_msg.specs.declared.client_msg.ClientMsg.{ClientMsg}
use Rattle.fs_serial.specs.Exchange.{PairFits, PairsFit}
use Rattle.fs_serial.specs.Relies.{Stood}
use Rattle.fs_serial.specs.Sight.{IsGiven}

-- numbers only rise, and no row with an old number is new
pub record IsLater (before then : ℕ → ℕ) (rows new : List Row) : Type 0 where
  pub given : (k : ℕ) → before k ≤ then k
  pub older : (r : Row) → In r new → IsGiven before r.no → Stood rows r

-- where each row stood before
pub later_among : (given then : ℕ → ℕ) (rows new : List Row) → ((k : ℕ) → given k ≤ then k) → ((r : Row) → In r new → Stood rows r) → IsLater given then rows new
later_among given then rows new rises stood = record { given = rises; older = λ r i g. stood r i }

pub stood_here : (rows : List Row) (r : Row) → In r rows → Stood rows r
stood_here rows r i = record { row = r; stood = i; number = refl; session = refl; field = refl; kind = refl }

pub later_itself : (given : ℕ → ℕ) (rows : List Row) → IsLater given given rows rows
later_itself given rows = later_among given given rows rows (λ k. omega arith) (stood_here rows)

pub stood_again : (rows : List Row) (x r : Row) → Stood rows x → x.no ≡ r.no → x.session ≡ r.session → x.field ≡ r.field → x.kind ≡ r.kind → Stood rows r
stood_again rows x r q number session field kind = record { row = q.row; stood = q.stood; number = q.number ∙ number; session = q.session ∙ session; field = q.field ∙ field; kind = q.kind ∙ kind }

-- one step after another
pub later_again : (g1 g2 g3 : ℕ → ℕ) (r1 r2 r3 : List Row) → IsLater g1 g2 r1 r2 → IsLater g2 g3 r2 r3 → IsLater g1 g3 r1 r3
later_again g1 g2 g3 r1 r2 r3 p q = record {
  given = λ k. let a = p.given k in let b = q.given k in omega arith;
  older = λ r i g.
      let more = p.given r.no.server in
      let x = q.older r i (omega arith) in
      stood_again r1 x.row r (p.older x.row x.stood (subst (λ n. IsGiven g1 n) (sym x.number) g)) x.number x.session x.field x.kind;
}

-- ## What is told with a number

pub later_pair : (given then : ℕ → ℕ) (rows new : List Row) → IsLater given then rows new → (p : List ℕ × LeaseNo) → PairFits given rows p → PairFits then new p
later_pair given then rows new l p f = record {
  known = let more = l.given p.1.server in let known = f.known in omega arith;
  place = λ r i e. let q = l.older r i (subst (λ n. IsGiven given n) (sym e) f.known) in ap file_of (sym q.field) ∙ f.place q.row q.stood (q.number ∙ e);
}

pub later_pairs : (given then : ℕ → ℕ) (rows new : List Row) → IsLater given then rows new → (up : List ClientMsg) → PairsFit given rows up → PairsFit then new up
later_pairs given then rows new l up f m i p j = later_pair given then rows new l p (f m i p j)
