-- Sample answers, by computation. Nobody cites it.
mod Samples
