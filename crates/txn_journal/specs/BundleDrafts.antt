-- How far a bundle's draft has come.
use Rattle.txn_journal.specs.BundleStates.{BundleStanding}
use Rattle.txn_journal.specs.Drafts.{standing}
use Rattle.txn_journal.specs.declared.bundle_draft.BundleDraft.{BundleDraft}

abbrev pub bundle_standing : BundleDraft → BundleStanding
bundle_standing d = record { part = d.part; due = d.due; version = d.version; tables = d.schema; bundle = d.bundle; channel = d.channel; draft = standing d.draft }
