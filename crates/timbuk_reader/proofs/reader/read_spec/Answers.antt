use Rattle.timbuk_reader.proofs.keeping.Answers.{found_by_reading, none_by_fault, answer_by_spec, answer_by_fault}
use Rattle.timbuk_reader.proofs.reader.read_spec.Goals as goal

pub returns-clause-found : goal.returns-clause-found
returns-clause-found c =
    found_by_reading c.texts_are_read.ensures.read c.texts_are_read.ensures.spelled c.faults_are_first.ensures c.no_text_has_two_specs.ensures c.args.bytes.now c.read_text.result c.read_text.ensures.read

pub returns-clause-fault : goal.returns-clause-fault
returns-clause-fault c told e = (c.faults_are_first.ensures c.args.bytes.now told).0 (c.read_text.ensures.stops told e)

pub returns-clause-none : goal.returns-clause-none
returns-clause-none c told spec e h =
    none_by_fault c.texts_are_read.ensures.read c.texts_are_read.ensures.spelled c.faults_are_first.ensures c.no_text_has_two_specs.ensures c.args.bytes.now told spec (c.read_text.ensures.stops told e) h

pub returns-clause-that_one : goal.returns-clause-that_one
returns-clause-that_one c spec h =
    answer_by_spec c.texts_are_read.ensures.read c.texts_are_read.ensures.spelled c.faults_are_first.ensures c.no_text_has_two_specs.ensures c.args.bytes.now c.read_text.result c.read_text.ensures.read
    c.read_text.ensures.stops spec h

pub returns-clause-first : goal.returns-clause-first
returns-clause-first c told h =
    answer_by_fault c.texts_are_read.ensures.read c.texts_are_read.ensures.spelled c.faults_are_first.ensures c.no_text_has_two_specs.ensures c.args.bytes.now c.read_text.result c.read_text.ensures.read
    c.read_text.ensures.stops told h
