-- Names every definition of splitting that computes: a proof that says `unfolding splitting_opened` computes with them all.
-- Assumes nothing.
use Rattle.splitting_spec.specs.Split.{is_kept, kept_order, kept_byte, kept_sheet, raised_byte, raised, half_job, half_sheet, whole_refusal, half_as, half_lent, decided, split_as, split, split_words}

unfoldable pub splitting_opened : Unit {0}
unfolding is_kept kept_order kept_byte kept_sheet raised_byte raised half_job half_sheet whole_refusal half_as half_lent decided split_as split split_words
splitting_opened = tt
