-- Where no key is shared, the keys of a world are sound once each number that it has not got was executed from the start.
use Rattle.std.proofs.Common.{◌≡◌, ℕ, ◌<◌, inl, inr, Option, Some, None, refl, sym, subst}
use Rattle.std.specs.Prelude.{IsSome}
use Rattle.std.specs.FinMap as finmap
use Rattle.std.specs.FinSet as set
use Rattle.gtid_text.specs.declared.Gtid.{Gtid}
use Rattle.rows.specs.declared.change.Transaction.{Transaction}
use Rattle.history.specs.Sources.{World, content, HasNumber, AreKeysSound}
use Rattle.world.specs.Audit.{shared}
use Rattle.world.proofs.Contents.{some_of}
use Rattle.world.proofs.Meanings.{le_cases, sources_apart}
use Rattle.audit.specs.Others.{skips_from}
use Rattle.audit.specs.Worlds.{LieBeyond}
use Rattle.audit.proofs.Passings.{content_not_skipped, lower_skipped}

-- What applies does not depend on the opening set. This one has the numbers that the contents pass over, and no others.
abbrev pub filled : World → World
filled world = record {
  schema = world.schema;
  opening_set = skips_from set.empty None (finmap.entries world.contents);
  opening_rows = world.opening_rows;
  contents = world.contents;
}

has_or_skips : (world : World) (g : Gtid) (m : ℕ) (t : Transaction) → content world g ≡ Some t → 0 < m → m < g.number → (o : Option Transaction) → content world (record { source = g.source; number = m }) ≡ o → HasNumber (filled world) g.source m
has_or_skips world g m t there positive less (Some u) e = inr (subst (λ (o : Option Transaction). IsSome o) (sym e) refl)
has_or_skips world g m t there positive less None e = inl (lower_skipped world g (record { source = g.source; number = m }) t there refl positive less e)

pub filled_sound : (world : World) → LieBeyond world.opening_set world.contents → shared world ≡ None → AreKeysSound (filled world)
filled_sound world beyond none = record {
  outside = λ g some. let t = some_of (content world g) some in content_not_skipped world g t.0 t.1;
  from_one = λ g some. let t = some_of (content world g) some in beyond.from_one g t.0 t.1;
  without_gap = λ g m positive within some.
      let t = some_of (content world g) some in
      elim (le_cases m g.number within) [
        | inl less ↦ has_or_skips world g m t.0 t.1 positive less (content world (record { source = g.source; number = m })) refl
        | inr same ↦ inr (subst (λ (x : ℕ). IsSome (content world (record { source = g.source; number = x }))) (sym same) some)
      ];
  apart = sources_apart world none;
}
