-- `sheet::walk::walk_slots` meets its contract: a word of slots at a time. Assumes nothing.
use Rattle.std.proofs.Common.{◌≡◌, sym, ◌∙◌, ℕ, ◌+◌, ◌-◌, ◌*◌, arith}
use Rattle.std.proofs.Math.Option.{none}
use Rattle.std.proofs.lemmas.Result.{err_from_is_err_and}
use Rattle.records.specs.Records.{slot_fault}
use Rattle.sheet.specs.Scripts.{host_words}
use Rattle.sheet.proofs.WalkLaws.{Run, Stopped, run_start, run_plain, run_part, run_part_stop, run_end, part_stopped, stopped_offset, walk_passed, walk_refused, walks_passed, walks_refused}
use Rattle.sheet.proofs.WordLaws.{words_none, words_kept, words_counted, words_more}
use Rattle.sheet.proofs.walk.walk_slots.Goals as goal
use Rattle.sheet.proofs.walk.walk_slots.Goals.{After-plain_slots-plain, then-plain-n+in_ok-any_slots, else-plain-n}

-- behind the plain ones of a word
behind : (c : After-plain_slots-plain) → Run (λ a. slot_fault c.args.reader.now.sheet.now a) c.args.reader.now.sheet.now c.loop-word.reader.at c.min-n.result
    c.plain_slots-plain.new.self.at (c.min-n.result - c.plain_slots-plain.result)
behind c =
    let p = c.plain_slots-plain in
    run_plain run_start 1 (omega arith) p.result (rw c.loop-word.invariant.same_sheet at p.ensures.count) p.ensures.at

pub returns-in_err-any_slots : goal.returns-in_err-any_slots
returns-in_err-any_slots c =
    let l = c.loop-word in
    let n = c.min-n.result in
    let e = c.plain_slots-plain.ensures.sheet ∙ l.invariant.same_sheet in
    let t = walk_refused c.any_slots.ensures c.in_err-any_slots.was in
    let x = err_from_is_err_and c.from_residual.result c.from_residual.ensures.1 in
    rw (x.1, x.2) (walks_refused (c.any_slots.ensures.sheet ∙ e)
    (run_part_stop l.invariant.run n (c.args.slots - 64 * l.word - n) (omega (arith, c.min-n.ensures))
    (part_stopped (behind (goal.at.returns-in_err-any_slots c).After-plain_slots-plain) (rw e at t))))

-- a word more
turn : (c : After-plain_slots-plain) (next words : ℕ)
    → let s = c.args.reader.now.sheet.now in
    let n = c.min-n.result in
    let left = c.args.slots - 64 * (c.loop-word.word + 1) in
    Stopped (λ a. slot_fault s a) s c.loop-word.reader.at n none next
    → host_words s c.loop-word.reader.at n (64 * c.loop-word.word) c.loop-word.host_words ≡ words
    → Run (λ a. slot_fault s a) s c.args.reader.now.at c.args.slots next left
    × (host_words s c.args.reader.now.at c.args.slots 0 0 ≡ host_words s next left (64 * (c.loop-word.word + 1)) words)
turn c next words t e =
    let l = c.loop-word in
    let n = c.min-n.result in
    let left = c.args.slots - 64 * (l.word + 1) in
    let q : c.args.slots - 64 * l.word ≡ n + left = omega (arith, c.min-n.ensures) in (
      run_part l.invariant.run n left q t,
      l.invariant.words ∙ words_more c.args.reader.now.sheet.now l.reader.at n left (c.args.slots - 64 * l.word) (64 * l.word) (64 * (l.word + 1)) l.host_words words next
          q (stopped_offset t) (λ h. omega (arith, c.min-n.ensures)) e,
    )

pub loop-word-preserved : goal.loop-word-preserved
loop-word-preserved c =
    let l = c.loop-word in
    let s = c.args.reader.now.sheet.now in
    let n = c.min-n.result in
    let p = c.plain_slots-plain in
    let e = p.ensures.sheet ∙ l.invariant.same_sheet in
    let b = (goal.at.loop-word-preserved c).After-plain_slots-plain in
    let run = rw l.invariant.same_sheet at p.ensures.count in
    elim c.if-plain-n.branch [
      | then-plain-n+in_ok-any_slots w ↦
          let t = (walk_passed w.any_slots.ensures w.in_ok-any_slots.was).0 in
          let q = turn b w.any_slots.new.reader.at (l.word + 1) (part_stopped (behind b) (rw e at t))
          (words_counted s l.reader.at n (64 * l.word) l.host_words l.word p.result (omega arith) (omega (arith, c.min-n.ensures)) run w.if-plain-n.true) in
          rw (w.reader-is, w.host_words-is) (record { same_sheet = w.any_slots.ensures.sheet ∙ e; run = q.0; words = q.1 })
      | else-plain-n w ↦
          let q = turn b p.new.self.at l.host_words (run_end (behind b) (omega (arith, w.if-plain-n.false)))
          (words_kept s l.reader.at n (64 * l.word) l.host_words p.result run w.if-plain-n.false) in
          rw (w.reader-is, w.host_words-is) (record { same_sheet = e; run = q.0; words = q.1 })
    ]

pub returns : goal.returns
returns c =
    let l = c.loop-word in
    let s = c.args.reader.now.sheet.now in
    let z : c.args.slots - 64 * l.word ≡ 0 = omega (arith, c.div_ceil-word-end.ensures) in
    let e : l.host_words ≡ host_words s c.args.reader.now.at c.args.slots 0 0 =
    sym (l.invariant.words ∙ words_none s l.reader.at (c.args.slots - 64 * l.word) (64 * l.word) l.host_words z) in
    rw e (walks_passed l.invariant.same_sheet (run_end l.invariant.run z))
