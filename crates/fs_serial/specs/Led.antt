-- What a server leads for a session.
use Rattle.std.specs.Prelude.{◌≡◌, ℕ, true, List, [], ◌∷◌, Option, Some, None}
use Rattle.fs_ident.specs.In.{In}
use Rattle.fs_ident.specs.declared.actor.Session.{Session}
use Rattle.fs_field.specs.declared.field.Field.{Field}
use Rattle.fs_field.specs.declared.field.Field.TheVariants.{Life}
use Rattle.fs_field.specs.declared.row.Row.{Row}
use Rattle.fs_field.specs.declared.used.Use.{Use}
use Rattle.fs_field.specs.declared.value.Value.{Value}
use Rattle.fs_field.specs.declared.value.Value.TheVariants as value
use Rattle.fs_ident.specs.declared.kind.Kind.TheVariants.{Dir}
use Rattle.fs_model.specs.Asking.{home_of}
use Rattle.fs_record.specs.Records.{RecordMap}
use Rattle.fs_record.specs.ValueOf.{value_of}
use Rattle.fs_view.specs.Gone.{known_with}
use Rattle.fs_client.specs.Led.{is_led, lead_of, moved_known}
use Rattle.fs_client.specs.declared.led.Led.{Led}
use Rattle.fs_server.specs.Leads.{parts_in, uses_of}
use Rattle.fs_txn.specs.declared.mode.Mode2.TheVariants.{Plain}
use Rattle.fs_serial.specs.Fresh.{made}
use Rattle.fs_serial.specs.Pending.{AllStand, IsAnswer, UsesBacked, UsesHeld}
use Rattle.fs_serial.specs.Settled.{Settled}
use Rattle.fs_serial.specs.Sight.{Sight}

-- the values give its reply, and tell which file moves or goes, and what it is
pub record IsLeadAnswer (values : Field → Value) (l : Led) : Type 0 where
  pub answer : IsAnswer values l.entry
  pub moved : moved_known (known_with values) l.entry.op ≡ Some (l.file, l.kind)

-- one of its leases tells that its home lives as a directory, while the row of that lease stands
pub record HomeLives (rows : List Row) (m : RecordMap) (by : Session) (l : Led) : Type 0 where
  pub used : Use
  pub among : In used l.entry.uses
  pub field : used.field ≡ Life (home_of l.entry.op)
  pub told : (r : Row) → In r rows → r.no ≡ used.no → value_of m by used.field ≡ value.Life (Some Dir)

-- it takes a file away or moves it to another place, and is its session's next operation, behind an empty log
pub record LedStands (skew greatest : ℕ) (s : Sight) (by : Session) (d : Settled) (l : Led) : Type 0 where
  pub leads : is_led l.entry.op l.entry.reply ≡ true
  pub number : l.entry.n ≡ d.next
  pub empty : d.log ≡ []
  -- what it uses its session has, each of one of its parts
  pub held : UsesHeld d.leases (l.entry ∷ [])
  pub backed : UsesBacked skew greatest s.rows (l.entry ∷ [])
  pub parts : (u : Use) → In u l.entry.uses → In u (uses_of (parts_in Plain (lead_of l)))
  -- its home was made as a directory, and lives as one as far as the row of a lease tells
  pub home : made s.journal (home_of l.entry.op) ≡ Some Dir
  pub lives : HomeLives s.rows s.records by l
  -- it answers what it will get, as far as the rows of its leases stand
  pub right : AllStand s.rows by l.entry.uses → IsLeadAnswer (value_of s.records by) l

abbrev pub LedFits : ℕ → ℕ → Sight → Session → Settled → Option Led → Type 0
LedFits skew greatest s by d None = Unit {0}
LedFits skew greatest s by d (Some l) = LedStands skew greatest s by d l
